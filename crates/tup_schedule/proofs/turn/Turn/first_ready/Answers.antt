use Rattle.std.proofs.Common.{sym, ◌∙◌}
use Rattle.tup_schedule.proofs.TurnLaws.{none_of, stopped_none}
use Rattle.tup_schedule.proofs.turn.Turn.first_ready.Goals as goal

pub returns-then-is_some : goal.returns-then-is_some
returns-then-is_some c = stopped_none c.args.plan.now _ c.stopped.result c.stopped.ensures (sym c.is_some.ensures ∙ c.if-is_some.true)

pub returns-in-None : goal.returns-in-None
returns-in-None c = none_of c.args.plan.now _ c.args.self.now c.requires.turn c.in-None.ensures
