use denote.Param.Send.{sendable}
use Rattle.std.proofs.Crossing.{crosses}
use Rattle.tup_site.proofs.memory.MemSite.TheSendSync as of_memory
use Rattle.tup_top_rows.proofs.failing.Failing.TheSendSync as of_failing
use Rattle.tup_top_rows.proofs.trial.updated_by.Goals as goal

pub tup-ran-requires-send-S : goal.tup-ran-requires-send-S
tup-ran-requires-send-S g c κs lives = search (sendable, crosses, of_memory.the_send) depth 20

pub tup-ran-requires-send-R : goal.tup-ran-requires-send-R
tup-ran-requires-send-R g c κs lives = search (sendable, crosses, of_failing.the_send) depth 20
