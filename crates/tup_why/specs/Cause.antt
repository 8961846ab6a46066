-- What is found out of each planned rule, so that the reasons of all can be read off (own).
use Rattle.std.specs.Prelude.{◌≡◌, ◌≢◌, ◌⊎◌, ℕ, Bool, true, false, List, Option, None, Some, Contains, IsSome, slice_get}
use Rattle.std.specs.BTreeMap.{get}
use Rattle.std.specs.FinMap as finite
use Rattle.std.specs.Ordering.{nat_cmp}
use Rattle.tup_path.specs.Name.{Names}
use Rattle.tup_stamp.specs.declared.Stamp.{Stamp}
use Rattle.tup_rule.specs.Rule.{declares, writes}
use Rattle.tup_rule.specs.declared.rule.Rule.{Rule}
use Rattle.tup_graph.specs.Above.{HasAsked}
use Rattle.tup_graph.specs.Graph.{GraphState}
use Rattle.tup_core.specs.declared.plan.Plan.{Plan}
use Rattle.tup_why.specs.Reason.{IsPlanned, IsChanged, IsUnfinished}
use Rattle.tup_why.specs.Waiting.{WaitsBy}
use Rattle.tup_why.specs.declared.cause.Cause.{Cause}
use Rattle.tup_why.specs.declared.cause.Cause.TheVariants.{New, Changed, ReadsNew, Waits, Unfinished}
use Rattle.tup_why.specs.declared.reasons.Reasons.{Reasons}

-- a rule asked an output of a planned rule that has no record
pub record ReadsByNew (g : GraphState) (plan : Plan) (number : ℕ) (maker : ℕ) (path : Names) : Type 0 where
  pub other : Rule
  pub made : IsPlanned plan maker other
  pub unrecorded : finite.get g.runs maker ≡ None
  pub asked : HasAsked g number path
  pub wrote : writes other path ≡ true

-- a cause is true of the planned rule of a number
abbrev pub IsCause : GraphState → Plan → ℕ → Rule → Cause → Type 0
IsCause g plan number rule New = finite.get g.runs number ≡ None
IsCause g plan number rule (Changed path) = IsChanged g number rule path
IsCause g plan number rule (ReadsNew maker path) = ReadsByNew g plan number maker path
IsCause g plan number rule (Waits maker path) = WaitsBy g plan number maker path
IsCause g plan number rule Unfinished = IsUnfinished g plan number rule

-- each of some asks, of no output of the rule's own, was told the seen stamp
abbrev pub SeesAsks : GraphState → Rule → List (Names × Option Stamp) → Type 0
SeesAsks g rule asks = (path : Names) (given : Option Stamp) → Contains asks (path, given) → writes rule path ≡ false → given ≡ finite.get g.seen path

-- the rule of a number gives one that asked a path a reason, and declares it or not: it has the path as an output, and it has no
-- record or the other declares the path
abbrev pub GivesReason : GraphState → List Rule → Bool → Names → ℕ → Type 0
GivesReason g rules declared path number =
    ((rule : Rule) × (slice_get rules number ≡ Some rule) × (writes rule path ≡ true)) × ((declared ≡ true) ⊎ (finite.get g.runs number ≡ None))

-- a path that a rule asked gives no cause: each planned rule that makes it has a record, and the rule doesn't declare it
pub record GivesNone (g : GraphState) (plan : Plan) (rule : Rule) (path : Names) : Type 0 where
  pub ran : (maker : ℕ) (other : Rule) → IsPlanned plan maker other → writes other path ≡ true → finite.get g.runs maker ≢ None
  pub undeclared : (maker : ℕ) (other : Rule) → IsPlanned plan maker other → writes other path ≡ true → declares rule path ≡ false

-- none of some paths that a rule asked gives a cause
abbrev pub GiveNone : GraphState → Plan → Rule → List (Names × Option Stamp) → Type 0
GiveNone g plan rule asks = (path : Names) (given : Option Stamp) → Contains asks (path, given) → GivesNone g plan rule path

-- the causes of the planned rules among some: each is true, and each such rule has one
pub record AreCausesAmong (g : GraphState) (plan : Plan) (numbers : List ℕ) (reasons : Reasons) : Type 0 where
  pub true_of : (number : ℕ) (cause : Cause) → get nat_cmp reasons.causes number ≡ Some cause → (rule : Rule) × IsPlanned plan number rule × IsCause g plan number rule cause
  pub each : (number : ℕ) (rule : Rule) → Contains numbers number → slice_get plan.rules number ≡ Some rule → IsSome (get nat_cmp reasons.causes number)

-- the causes of all planned rules
abbrev pub AreCauses : GraphState → Plan → Reasons → Type 0
AreCauses g plan reasons = AreCausesAmong g plan plan.reach reasons
