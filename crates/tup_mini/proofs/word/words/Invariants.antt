use Rattle.std.proofs.Common.{◌≡◌, filter, map}
use Rattle.tup_mini.specs.Words.{is_word}
use Rattle.tup_mini.proofs.word.words.Given as goal

abbrev pub invariant-loop-part : goal.invariant-loop-part
invariant-loop-part l =
    (goal.iterator-loop-part).can_next l.part-iterator ×
    (goal.iterator-loop-part).is_finite l.part-iterator ×
    (l.found.items ≡ filter is_word (map (λ part. part.now) l.yielded))
