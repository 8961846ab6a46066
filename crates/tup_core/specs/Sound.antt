-- What a plan and a state must be for the laws of runs to hold (own).
use Rattle.std.specs.Prelude.{◌≡◌, ◌⊎◌, ◌==◌, ℕ, ◌<◌, true, List, Contains, length, Option, None, Some, Ok, slice_get}
use Rattle.std.specs.List.{list_any}
use Rattle.std.specs.List.Sorted.{IsStrictlySortedBy}
use Rattle.std.specs.Ordering.{nat_cmp}
use Rattle.tup_path.specs.Name.{Names}
use Rattle.tup_path.specs.Resolve.{resolve}
use Rattle.tup_stamp.specs.declared.Stamp.{Stamp}
use Rattle.tup_rule.specs.declared.rule.Rule.{Rule}
use Rattle.tup_rule.specs.Rule.{declares, writes}
use Rattle.tup_clean.specs.Buildable.{NoneWaitsForItself}
use Rattle.tup_access.specs.Access.{may_read}
use Rattle.tup_core.specs.declared.plan.Plan.{Plan}
use Rattle.tup_core.specs.Step.{State, IsReady, is_reached, told}

-- no output of a rule of the reach is an output of another rule of the plan
abbrev pub HasOneMaker : Plan → Type 0
HasOneMaker plan =
    (at other : ℕ) (rule another : Rule) (path : Names) → is_reached plan at ≡ true → slice_get plan.rules at ≡ Some rule
    → slice_get plan.rules other ≡ Some another → writes rule path ≡ true → writes another path ≡ true → at ≡ other

-- no rule waits for itself
abbrev pub IsAcyclic : List Rule → Type 0
IsAcyclic rules = NoneWaitsForItself rules

-- the numbers of the reach are places of rules
abbrev pub IsInRange : Plan → Type 0
IsInRange plan = (at : ℕ) → is_reached plan at ≡ true → at < length plan.rules

-- a path is an output of one of the rules with some numbers
pub record IsMadeBy (rules : List Rule) (numbers : List ℕ) (path : Names) : Type 0 where
  pub number : ℕ
  pub rule : Rule
  pub listed : list_any (λ other. number == other) numbers ≡ true
  pub here : slice_get rules number ≡ Some rule
  pub written : writes rule path ≡ true

-- places of rules, ascending, among which all rules are that declare or make a path of some kind
pub record AreNamersOf (rules : List Rule) (IsOne : Names → Type 0) (near : List ℕ) : Type 0 where
  pub each : (at : ℕ) (rule : Rule) (path : Names) → IsOne path → slice_get rules at ≡ Some rule → (declares rule path ≡ true) ⊎ (writes rule path ≡ true) → Contains near at
  pub range : (at : ℕ) → Contains near at → at < length rules
  pub ascending : IsStrictlySortedBy nat_cmp near

-- all rules that declare or make an output of a rule of the reach are noted as near
abbrev pub HasNear : Plan → Type 0
HasNear plan = AreNamersOf plan.rules (IsMadeBy plan.rules plan.reach) plan.near

-- an answered ask still stands: its text names a path that may be read, and a command would now be told the same
pub record Stands (plan : Plan) (state : State) (rule : Rule) (ask : List ℕ × Option Stamp) : Type 0 where
  pub path : Names
  pub named : resolve rule.dir ask.0 ≡ Ok path
  pub readable : may_read plan.rules rule path ≡ true
  pub same : ask.1 ≡ told rule state path

-- nothing goes on any more, and nothing is stopped: no rule is ready, and none runs
pub record IsQuiet (plan : Plan) (state : State) : Type 0 where
  pub none_ready : (at : ℕ) → IsReady plan state at → ⊥
  pub none_runs : (seat : ℕ) → state.seats seat ≡ None
  pub going : state.stopped ≡ None

-- a rule waits, and nothing will ever change that: all is quiet, and no rule is bad
pub record IsStuck (plan : Plan) (state : State) : Type 0 where
  pub pending : (at : ℕ) × (state.pending at ≡ true)
  pub quiet : IsQuiet plan state
  pub none_bad : (at : ℕ) → state.bad at ≡ None
