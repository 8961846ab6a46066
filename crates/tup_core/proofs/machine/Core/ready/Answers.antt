use Rattle.tup_core.proofs.MachineLaws.{ready_tells}
use Rattle.tup_core.proofs.machine.Core.ready.Goals as goal

pub returns : goal.returns
returns c = ready_tells c.args.plan.now c.args.self.now c.args.rule c.passes.result c.requires c.passes.ensures
