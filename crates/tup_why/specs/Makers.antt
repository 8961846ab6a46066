-- Who makes a path among the rules of a plan (own).
use Rattle.std.specs.Prelude.{◌≡◌, ◌↔◌, ℕ, true, List, Some, Contains, slice_get}
use Rattle.tup_path.specs.Name.{Names}
use Rattle.tup_rule.specs.Rule.{writes}
use Rattle.tup_rule.specs.declared.rule.Rule.{Rule}
use Rattle.tup_closure.specs.Lists.{IsListed}
use Rattle.tup_closure.specs.declared.lists.Lists.{Lists}
use Rattle.tup_core.specs.declared.plan.Plan.{Plan}

-- one of some rules has a path as an output
abbrev pub IsMakerAmong : List Rule → List ℕ → Names × ℕ → Type 0
IsMakerAmong rules numbers (path, number) = Contains numbers number × (rule : Rule) × (slice_get rules number ≡ Some rule) × (writes rule path ≡ true)

-- the rule of a number has this path as an output
abbrev pub IsOutput : List Rule → ℕ → Names × ℕ → Type 0
IsOutput rules number (path, maker) = (maker ≡ number) × (rule : Rule) × (slice_get rules number ≡ Some rule) × (writes rule path ≡ true)

-- one of some paths, with this number
abbrev pub IsOneOf : List Names → ℕ → Names × ℕ → Type 0
IsOneOf paths number (path, maker) = (maker ≡ number) × Contains paths path

-- just those of some rules that have a path as an output are listed for it
abbrev pub AreMakersAmong : List Rule → List ℕ → Lists ℕ → Type 0
AreMakersAmong rules numbers makers = (x : Names × ℕ) → IsListed makers x ↔ IsMakerAmong rules numbers x

-- just the planned rules that have it are
abbrev pub AreMakers : Plan → Lists ℕ → Type 0
AreMakers plan makers = AreMakersAmong plan.rules plan.reach makers
