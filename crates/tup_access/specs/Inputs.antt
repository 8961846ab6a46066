-- The paths that a rule declares, as a loop over its command has them at hand (own).
use Rattle.std.specs.Prelude.{◌≡◌, ℕ, List, Some, IfSome, slice_get}
use Rattle.std.specs.BTreeSet.{BTreeSet, contains}
use Rattle.tup_path.specs.Name.{Names}
use Rattle.tup_path.specs.Order.{by_names}
use Rattle.tup_rule.specs.declared.rule.Rule.{Rule}
use Rattle.tup_rule.specs.Rule.{declares}
use Rattle.tup_access.specs.declared.inputs.Inputs.{Inputs}

-- where there is a set, it has just the paths that this rule declares
abbrev pub AreInputs : Rule → Inputs → Type 0
AreInputs rule inputs = IfSome inputs.many (λ (set : BTreeSet Names). (path : Names) → contains by_names set path ≡ declares rule path)

-- the same of each of some rules
abbrev pub AreInputsOfAll : List Rule → List Inputs → Type 0
AreInputsOfAll rules all = (at : ℕ) (rule : Rule) (inputs : Inputs) → slice_get rules at ≡ Some rule → slice_get all at ≡ Some inputs → AreInputs rule inputs
