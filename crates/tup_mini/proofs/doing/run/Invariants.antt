use Rattle.std.proofs.Common.{drop}
use Rattle.tup_mini.specs.Means.{runs}
use Rattle.tup_mini.specs.Through.{kept_of, GoesOn}
use Rattle.tup_mini.proofs.doing.run.Given as goal

abbrev pub invariant-loop-step : goal.invariant-loop-step
invariant-loop-step g l =
    GoesOn g.V.View.came g.V.View.same g.V.View.refusal l.fn.view l.view (runs l.steps (kept_of l.fn.kept)) (runs (drop l.step-index l.steps) (kept_of l.kept))
