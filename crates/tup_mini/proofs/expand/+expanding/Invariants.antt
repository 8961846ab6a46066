use Rattle.std.proofs.Common.{◌*◌, ◌+◌, length}
use Rattle.tup_mini.specs.Include.{expands, includes, lines_of}
use Rattle.tup_mini.specs.Through.{kept_of, GoesOn}
use Rattle.tup_mini.proofs.expand.+expanding.Given as goal

abbrev pub decreases-expand : goal.decreases-expand
decreases-expand g l = 2 * l.left + 1

abbrev pub decreases-include : goal.decreases-include
decreases-include g l = 2 * l.left

abbrev pub invariant-expand-loop-rest : goal.invariant-expand-loop-rest
invariant-expand-loop-rest g l =
    GoesOn g.V.View.came g.V.View.same g.V.View.refusal l.fn.view l.view
    (expands (includes l.left) l.text l.fn.front (lines_of l.content) (kept_of l.fn.kept))
    (expands (includes l.left) l.text l.whole (lines_of l.rest) (kept_of l.kept))

abbrev pub decreases-expand-loop-rest : goal.decreases-expand-loop-rest
decreases-expand-loop-rest g l = length l.rest
