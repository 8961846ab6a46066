-- Who makes the outputs that a plan makes (own).
use Rattle.std.specs.Prelude.{◌≡◌, ℕ, List, [], Some, All, fold, option_map, slice_get, unwrap_or}
use Rattle.std.specs.FinMap as finite
use Rattle.tup_path.specs.Name.{Names}
use Rattle.tup_path.specs.Order.{by_names}
use Rattle.tup_rule.specs.declared.rule.Rule.{Rule}
use Rattle.tup_core.specs.declared.plan.Plan.{Plan}

-- numbers of rules by paths
abbrev pub Makers : Type 0
Makers = finite.FinMap by_names ℕ

-- the rule of a number makes a path
abbrev pub with_maker : ℕ → Makers → Names → Makers
with_maker number makers path = finite.insert makers path number

-- the outputs of the rule of a number
abbrev pub outputs_at : List Rule → ℕ → List Names
outputs_at rules number = unwrap_or (option_map (λ (rule : Rule). rule.outputs) (slice_get rules number)) []

-- the rule of a number makes its outputs
abbrev pub with_outputs : List Rule → Makers → ℕ → Makers
with_outputs rules makers number = fold (with_maker number) makers (outputs_at rules number)

-- the outputs of the rules that a plan runs, with a rule that makes each: the last one in the plan's order
abbrev pub makers_in : Plan → Makers
makers_in plan = fold (with_outputs plan.rules) finite.empty plan.reach

-- who makes a path, if it is among these, is the rule of this number
abbrev pub IsOnlyMaker : Makers → ℕ → Names → Type 0
IsOnlyMaker makers number path = (maker : ℕ) → finite.get makers path ≡ Some maker → maker ≡ number

-- what the rule of a number makes of these no other rule makes
abbrev pub MakesOnly : Makers → List Rule → ℕ → Type 0
MakesOnly makers rules number = All (IsOnlyMaker makers number) (outputs_at rules number)

-- nor what the rules of some numbers make of these
abbrev pub AreOnlyMakers : Makers → List Rule → List ℕ → Type 0
AreOnlyMakers makers rules numbers = All (MakesOnly makers rules) numbers
