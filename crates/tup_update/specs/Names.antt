-- What is known of each rule of a plan, and their names (own).
use Rattle.std.specs.Prelude.{◌≡◌, ◌≤◌, ◌+◌, [], ℕ, Option, Contains, IsSome, option_map, slice_get, vec_len, vec_capacity, List}
use Rattle.std.specs.BTreeMap.{BTreeMap, get, btree_map_len}
use Rattle.std.specs.Ordering.{nat_cmp}
use Rattle.tup_rule.specs.declared.rule.Rule.{Rule}
use Rattle.tup_rule.specs.declared.rule.RuleName.{RuleName}
use Rattle.tup_rule.specs.Rule.{name_of}
use Rattle.tup_core.specs.declared.plan.Plan.{Plan}
use Rattle.tup_update.specs.declared.by_rule.ByRule.{ByRule}

-- the value that waits under a number
abbrev pub value_at : {V : Type 0} → ByRule V → ℕ → Option V
value_at values number = get nat_cmp values.waiting number

-- the name of the rule with a number
abbrev pub name_in : List Rule → ℕ → Option RuleName
name_in rules number = option_map name_of (slice_get rules number)

-- there is room for all values that wait
abbrev pub HasRoom : {V : Type 0} → ByRule V → Type 0
HasRoom values = vec_len values.begun + btree_map_len values.waiting ≤ vec_capacity values.begun

-- these values wait, and none is handed out
pub record IsWaiting {V : Type 0} (waiting : BTreeMap ℕ V) (values : ByRule V) : Type 0 where
  pub same : values.waiting ≡ waiting
  pub none : values.begun.items ≡ []
  pub room : HasRoom values

-- a value waits for each of some rules, there is room for all, and none is handed out
pub record IsReadyFor {V : Type 0} (numbers : List ℕ) (values : ByRule V) : Type 0 where
  pub each : (number : ℕ) → Contains numbers number → IsSome (value_at values number)
  pub none : values.begun.items ≡ []
  pub room : HasRoom values

-- the names of the rules that a plan has to run, of which none is begun
pub record AreNamesOf (plan : Plan) (names : ByRule RuleName) : Type 0 where
  pub waits : (number : ℕ) → Contains plan.reach number → value_at names number ≡ option_map name_of (slice_get plan.rules number)
  pub none : names.begun.items ≡ []
  pub room : HasRoom names
