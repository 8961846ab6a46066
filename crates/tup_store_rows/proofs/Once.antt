-- A list of one reading at most has each folder once; rules of which none is of an earlier folder than the one before it.
use Rattle.std.specs.Prelude.{◌≡◌, ◌<◌, ◌≤◌, ◌+◌, ◌-◌, ℕ, suc, List, [], ◌∷◌, Some, length, map, slice_get}
use Rattle.std.proofs.Common.{◌∙◌, arith}
use Rattle.std.specs.List.{IsDistinct}
use Rattle.std.specs.declared.cmp.Ordering.TheVariants.{Greater}
use Rattle.tup_path.specs.Name.{Names}
use Rattle.tup_path.specs.Order.{by_names, same_path}
use Rattle.tup_rule.specs.declared.question.Reading.{Reading}
use Rattle.tup_rule.specs.declared.rule.Rule.{Rule}
use Rattle.tup_rule_diff.specs.Edits.{dir_of}

pub once : (fresh : List (Names × Reading)) → length fresh < 2 → IsDistinct same_path (map dir_of fresh)
unfolding IsDistinct
once [] few = tt
once (one ∷ []) few = (tt, tt)
once (one ∷ other ∷ fresh) few = absurd (omega (arith, few))

-- no rule below a place is of an earlier folder than the one before it
abbrev pub AreSoBelow : List Rule → ℕ → Type 0
AreSoBelow rules at = (k : ℕ) (rule next : Rule) → suc k < at → slice_get rules k ≡ Some rule → slice_get rules (suc k) ≡ Some next → by_names rule.dir next.dir ≡ Greater → ⊥
