use Rattle.std.specs.Prelude.{take, drop}
use Rattle.tup_core.specs.Run.{claims}
use Rattle.tup_update.proofs.Taking.{IsTaking}
use Rattle.tup_update.proofs.by_rule.ByRule.claimed.Given as goal

abbrev pub invariant-loop-event : goal.invariant-loop-event
invariant-loop-event g l = IsTaking l.fn.self (claims (take l.event-index l.fn.history)) (claims (drop l.event-index l.fn.history)) l.self
