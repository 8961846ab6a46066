use Rattle.std.proofs.Common.{◌≡◌, map}
use Rattle.tup_mini.specs.Steps.{step_of}
use Rattle.tup_mini.proofs.steps.steps.Given as goal

abbrev pub invariant-loop-part : goal.invariant-loop-part
invariant-loop-part l =
    (goal.iterator-loop-part).can_next l.part-iterator ×
    (goal.iterator-loop-part).is_finite l.part-iterator ×
    (l.steps.items ≡ map step_of (map (λ part. part.now) l.yielded))
