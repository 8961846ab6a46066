use Rattle.tup_core_rows.proofs.Machines.{some_told}
use Rattle.tup_core_rows.proofs.machine.Machine.allows_to.Goals as goal

pub returns-in-Ok : goal.returns-in-Ok
returns-in-Ok c = some_told c.args.self.now.plan c.args.running.now c.args.text.now c.allows.result c.in-Ok.given c.allows.ensures c.in-Ok.is
