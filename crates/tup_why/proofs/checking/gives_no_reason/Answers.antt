use Rattle.tup_why.proofs.Checks.{idle_unfinished, unrecorded_finished}
use Rattle.tup_why.proofs.checking.gives_no_reason.Goals as goal

pub returns-in-Some : goal.returns-in-Some
returns-in-Some c = idle_unfinished c.args.nodes.now c.args.plan.now c.args.number c.args.rule.now c.in-Some.last.now c.in-Some.ensures c.is_idle.result c.is_idle.ensures

pub returns-in-None : goal.returns-in-None
returns-in-None c = unrecorded_finished c.args.nodes.now c.args.plan.now c.args.number c.args.rule.now c.in-None.ensures
