use denote.Param.Send.{sendable}
use Rattle.std.proofs.Crossing.{crosses}
use Rattle.tup_mini.proofs.mini.Mini.TheSendSync as of_mini
use Rattle.tup_top_rows.proofs.turns.carried_out.Goals as goal

pub history-requires-send-R : goal.history-requires-send-R
history-requires-send-R g c κs lives = search (sendable, crosses, of_mini.the_send) depth 20
