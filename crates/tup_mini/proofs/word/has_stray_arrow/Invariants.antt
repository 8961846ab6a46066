use Rattle.std.proofs.Common.{◌≡◌, drop}
use Rattle.tup_mini.specs.Words.{has_stray_arrow as stray_arrow_test}
use Rattle.tup_mini.proofs.word.has_stray_arrow.Given as goal

abbrev pub invariant-loop-at : goal.invariant-loop-at
invariant-loop-at l = stray_arrow_test l.words ≡ stray_arrow_test (drop l.at l.words)
