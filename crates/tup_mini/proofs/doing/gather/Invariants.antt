use Rattle.std.proofs.Common.{[], drop}
use Rattle.tup_mini.specs.Files.{gathers}
use Rattle.tup_mini.specs.Through.{kept_of, GoesOn}
use Rattle.tup_mini.proofs.doing.gather.Given as goal

abbrev pub invariant-loop-text : goal.invariant-loop-text
invariant-loop-text g l =
    GoesOn g.V.View.came g.V.View.same g.V.View.refusal l.fn.view l.view (gathers [] l.from (kept_of l.fn.kept)) (gathers l.whole (drop l.text-index l.from) (kept_of l.kept))
