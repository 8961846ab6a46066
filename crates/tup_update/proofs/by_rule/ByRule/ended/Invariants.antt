use Rattle.std.specs.Prelude.{drop}
use Rattle.tup_update.proofs.Taking.{IsTakingEnds}
use Rattle.tup_update.proofs.by_rule.ByRule.ended.Given as goal

abbrev pub invariant-loop-event : goal.invariant-loop-event
invariant-loop-event g l = IsTakingEnds l.fn.self l.fn.history (drop l.event-index l.fn.history) l.claimed l.self
