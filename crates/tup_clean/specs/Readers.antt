-- For each rule, the rules that declare what it makes (own).
use Rattle.std.specs.Prelude.{◌≡◌, ℕ, List, length, None, Some, slice_get}
use Rattle.tup_rule.specs.declared.rule.Rule.{Rule}
use Rattle.tup_rule.specs.Makers.{producers}
use Rattle.tup_clean.specs.Queue.{count_of}

-- a list for each rule, which has each rule as often as that one declares such a path
pub record AreReaders (rules : List Rule) (readers : List (List ℕ)) : Type 0 where
  pub many : length readers ≡ length rules
  pub each : (at other : ℕ) (rule : Rule) (list : List ℕ) → slice_get rules at ≡ Some rule → slice_get readers other ≡ Some list → count_of at list ≡ count_of other (producers rules rule)
  pub within : (at other : ℕ) (list : List ℕ) → slice_get rules at ≡ None → slice_get readers other ≡ Some list → count_of at list ≡ 0
