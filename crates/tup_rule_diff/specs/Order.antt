-- Rules in the order of their folders (own).
use Rattle.std.specs.Prelude.{◌≡◌, ℕ, suc, List, Some, slice_get}
use Rattle.std.specs.declared.cmp.Ordering.TheVariants.{Greater}
use Rattle.tup_path.specs.Order.{by_names}
use Rattle.tup_rule.specs.declared.rule.Rule.{Rule}

-- no rule is of an earlier folder than the one before it
abbrev pub AreByFolder : List Rule → Type 0
AreByFolder rules = (number : ℕ) (rule next : Rule) → slice_get rules number ≡ Some rule → slice_get rules (suc number) ≡ Some next → by_names rule.dir next.dir ≡ Greater → ⊥
