-- A seat may go to another thread where the value may.
use denote.RattleType.{RattleType}
use denote.Param.Send.{IsSend, sendable}
use Rattle.std.proofs.Crossing.{crosses}
use Rattle.std.specs.contracts.option.Option as option
use Rattle.atomic_table.proofs.shared.Seat.TheSendSync as crossing
use Rattle.tup_lock.specs.declared.logged.Logged as logged
use Rattle.tup_lock.specs.contracts.seat.Seat as seat

option_send : (T : RattleType) → IsSend T → IsSend (option.the_row T)
option_send T s = search sendable depth 20

pub seat_send : (T E : RattleType) (log : logged.Ghosts T.Denot E.Denot) → IsSend T → IsSend (seat.the_row T E log)
seat_send T E log s = let o = option_send T s in search (sendable, crosses, crossing.the_send) depth 40
