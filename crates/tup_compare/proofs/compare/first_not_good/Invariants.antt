use Rattle.std.proofs.Common.{◌≡◌, ◌<◌, ℕ, IsTrue, Some}
use Rattle.std.specs.List.{slice_get}
use Rattle.tup_access.specs.declared.verdict.Verdict.{Verdict}
use Rattle.tup_clean.specs.Clean.{is_good}
use Rattle.tup_compare.proofs.compare.first_not_good.Given as goal

abbrev pub invariant-loop-at : goal.invariant-loop-at
invariant-loop-at l = (place : ℕ) (verdict : Verdict) → place < l.at → slice_get l.verdicts place ≡ Some (Some verdict) → IsTrue (is_good (Some verdict))
