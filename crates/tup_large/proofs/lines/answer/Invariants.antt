use Rattle.std.proofs.Common.{◌≡◌, length}
use Rattle.tup_large.specs.Shown.{first_other, life_status}
use Rattle.tup_large.proofs.lines.answer.Given as goal

abbrev pub invariant-loop-end : goal.invariant-loop-end
invariant-loop-end l = first_other l.ends.items l.answer ≡ life_status l.fn.ends.items l.fn.refused

abbrev pub decreases-loop-end : goal.decreases-loop-end
decreases-loop-end l = length l.ends.items
