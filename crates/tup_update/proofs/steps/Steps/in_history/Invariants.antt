use Rattle.std.specs.Prelude.{drop}
use Rattle.tup_update.proofs.Stepping.{IsTakingSteps}
use Rattle.tup_update.proofs.steps.Steps.in_history.Given as goal

abbrev pub invariant-loop-event : goal.invariant-loop-event
invariant-loop-event l = IsTakingSteps l.fn.history (drop l.event-index l.fn.history) l.self
