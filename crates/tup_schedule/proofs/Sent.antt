-- A course may go to another thread. No proof of that is made by itself, as a course keeps snapshots, and so does its core.
use denote.Param.Send.{IsSend, sendable}
use Rattle.std.proofs.Crossing.{crosses}
use Rattle.std.proofs.MapsCrossing as maps
use Rattle.tup_path.proofs.path.Path.TheSendSync as path
use Rattle.tup_access.proofs.inputs.Inputs.TheSendSync as inputs
use Rattle.tup_access.proofs.verdict.Verdict.TheSendSync as verdict
use Rattle.tup_core.proofs.event.Cause.TheSendSync as cause
use Rattle.tup_core.proofs.event.CoreEvent.TheSendSync as event
use Rattle.tup_core.proofs.outputs.Outputs.TheSendSync as outputs
use Rattle.tup_core.proofs.running.Running.TheSendSync as running
use Rattle.tup_core.proofs.waiting.Waiting.TheSendSync as waiting
use Rattle.tup_core.specs.contracts.files.FileStamps as FileStamps
use Rattle.tup_core.specs.contracts.machine.Core as Core
use Rattle.tup_schedule.proofs.turn.Turn.TheSendSync as turn
use Rattle.tup_schedule.specs.contracts.course.Course as Course

files_send : IsSend (FileStamps.the_field).row
files_send = search (sendable, crosses, maps.crosses, path.the_send) depth 40

core_send : IsSend (Core.the_field).row
core_send = search (sendable, crosses, files_send, outputs.the_field_send, inputs.the_send, verdict.the_send, cause.the_send, running.the_send, waiting.the_field_send) depth 40

pub course_send : IsSend Course.the_row
course_send = search (sendable, crosses, core_send, event.the_send, turn.the_field_send) depth 40
