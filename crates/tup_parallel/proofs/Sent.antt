-- A board under a lock may be shared by threads where its site may go to another.
use denote.RattleType.{RattleType}
use denote.Param.Send.{IsSend, IsSync, sendable}
use denote.Param.SendFields.{declared_sync}
use Rattle.std.proofs.Crossing.{crosses}
use Rattle.std.specs.contracts.option.Option as option
use Rattle.atomic_table.proofs.shared.Shared.TheSendSync as shared_crossing
use Rattle.atomic_table.proofs.send_lease.SendLease.TheSendSync as lease_crossing
use Rattle.tup_site.specs.declared.site.Site as Site
use Rattle.tup_runner.specs.declared.runner.Runner as Runner
use Rattle.tup_board.proofs.Sent.{board_send}
use Rattle.tup_lock.specs.declared.logged.Logged as logged
use Rattle.tup_lock.specs.contracts.lock.Lock as lock
use Rattle.tup_lock.specs.contracts.seat_lock.SeatLock as seat_lock
use Rattle.tup_lock.specs.contracts.graph_lock.GraphLock as graph_lock
use Rattle.tup_lock.specs.contracts.ends.Ends as ends

option_send : (T : RattleType) → IsSend T → IsSend (option.the_row T)
option_send T s = search sendable depth 20

lock_sync : (T E : RattleType) (log : logged.Ghosts T.Denot E.Denot) → IsSend T → IsSync (lock.the_row T E log)
lock_sync T E log s = let o = option_send T s in search (sendable, crosses, shared_crossing.the_sync, lease_crossing.the_sync) depth 40

ends_sync : IsSync ends.the_row
ends_sync = search (sendable, crosses) depth 30

seat_lock_sync : (T W E : RattleType) (log : logged.Ghosts T.Denot E.Denot) → IsSend T → IsSync W → IsSync (seat_lock.the_row T W E log)
seat_lock_sync T W E log s w =
    declared_sync (seat_lock.the_type T W E log)
    (lock_sync T E log s, (search (sendable, crosses) depth 20, (search sendable, (search (sendable, crosses) depth 20, (ends_sync, tt)))))

pub graph_lock_sync : (S R W : RattleType) (g : Site.Ghosts S.Denot) (h : Runner.Ghosts R.Denot) → IsSend S → IsSync W → IsSync (graph_lock.the_row S R W g h)
graph_lock_sync S R W g h s w = let b = board_send S R g h s in declared_sync (graph_lock.the_type S R W g h) (search (sendable, crosses, seat_lock_sync) depth 30, tt)
