-- Why a rule is run (own): a reason is a chain from a root to the rule, over what the records of the last good runs read and
-- over the outputs of the rules between. It speaks of the graph and the plan before the first rule is begun.
use Rattle.std.specs.Prelude.{◌≡◌, ◌≢◌, ◌⊎◌, ℕ, true, false, List, [], ◌∷◌, Option, None, Some, Contains, slice_get}
use Rattle.std.specs.FinMap as finite
use Rattle.tup_path.specs.Name.{Names}
use Rattle.tup_stamp.specs.declared.Stamp.{Stamp}
use Rattle.tup_rule.specs.Rule.{declares, writes}
use Rattle.tup_rule.specs.declared.rule.Rule.{Rule}
use Rattle.tup_record.specs.declared.run.RunRecord.{RunRecord}
use Rattle.tup_graph.specs.Above.{HasAsked}
use Rattle.tup_graph.specs.Graph.{GraphState}
use Rattle.tup_graph.specs.Kept.{HasSeenStamps}
use Rattle.tup_core.specs.declared.plan.Plan.{Plan}
use Rattle.tup_why.specs.declared.reason.Link.{Link}
use Rattle.tup_why.specs.declared.reason.Link.TheVariants.{Reads, Writes}
use Rattle.tup_why.specs.declared.reason.Reason.{Reason}
use Rattle.tup_why.specs.declared.reason.Root.{Root}
use Rattle.tup_why.specs.declared.reason.Root.TheVariants.{Changed, NewRule, Unfinished}

-- a plan runs the rule of a number
pub record IsPlanned (plan : Plan) (number : ℕ) (rule : Rule) : Type 0 where
  pub here : slice_get plan.rules number ≡ Some rule
  pub reached : Contains plan.reach number

-- one of some asks, of no output of the rule's own, was told another stamp of a path than the seen one
abbrev pub IsOtherAsk : GraphState → Rule → List (Names × Option Stamp) → Names → Type 0
IsOtherAsk g rule asks path = (given : Option Stamp) × Contains asks (path, given) × (writes rule path ≡ false) × (given ≢ finite.get g.seen path)

-- one of some files was written with another stamp than the seen one
abbrev pub IsOtherWrite : GraphState → List (Names × Stamp) → Names → Type 0
IsOtherWrite g files path = (given : Stamp) × Contains files (path, given) × (finite.get g.seen path ≢ Some given)

-- the record of a rule has another stamp of a path than the seen one: the run asked the path or wrote it
abbrev pub HasOther : GraphState → Rule → RunRecord → Names → Type 0
HasOther g rule run path = IsOtherAsk g rule run.asks path ⊎ IsOtherWrite g run.writes path

-- a rule has a record, and that has another stamp of a path
abbrev pub IsChanged : GraphState → ℕ → Rule → Names → Type 0
IsChanged g number rule path = (run : RunRecord) × (finite.get g.runs number ≡ Some run) × HasOther g rule run path

-- a rule has a record with the seen stamps alone, and what it asked gives no reason: a planned rule that makes such a path has
-- a record, and the rule doesn't declare the path. So its last run didn't end well.
pub record IsUnfinished (g : GraphState) (plan : Plan) (number : ℕ) (rule : Rule) : Type 0 where
  pub run : RunRecord
  pub recorded : finite.get g.runs number ≡ Some run
  pub same : HasSeenStamps g rule run
  pub ran : (path : Names) (given : Option Stamp) (maker : ℕ) (other : Rule) → Contains run.asks (path, given) → IsPlanned plan maker other
      → writes other path ≡ true → finite.get g.runs maker ≢ None
  pub undeclared : (path : Names) (given : Option Stamp) (maker : ℕ) (other : Rule) → Contains run.asks (path, given) → IsPlanned plan maker other
      → writes other path ≡ true → declares rule path ≡ false

-- a chain goes on from the rule of a number to that of another: it ends there, or it goes over an output to a planned rule
-- whose record asks it, and on from there
abbrev pub GoesOn : GraphState → Plan → ℕ → List Link → ℕ → Type 0
GoesOn g plan number [] last = number ≡ last
GoesOn g plan number (Writes path ∷ Reads next ∷ links) last =
    (rule : Rule) × (reader : Rule) × IsPlanned plan number rule × (writes rule path ≡ true)
    × IsPlanned plan next reader × HasAsked g next path × GoesOn g plan next links last
GoesOn g plan number other last = ⊥

-- a chain leads from a root to the rule of a number: from a changed file to a planned rule whose record has another stamp of
-- it, from a planned rule without a record, or from one that is unfinished; and on from that rule
abbrev pub LeadsTo : GraphState → Plan → Root → List Link → ℕ → Type 0
LeadsTo g plan (Changed path) (Reads first ∷ links) last =
    (rule : Rule) × IsPlanned plan first rule × IsChanged g first rule path × GoesOn g plan first links last
LeadsTo g plan (Changed path) other last = ⊥
LeadsTo g plan (NewRule first) links last =
    (rule : Rule) × IsPlanned plan first rule × (finite.get g.runs first ≡ None) × GoesOn g plan first links last
LeadsTo g plan (Unfinished first) links last =
    (rule : Rule) × IsPlanned plan first rule × IsUnfinished g plan first rule × GoesOn g plan first links last

-- a reason of the rule of a number
abbrev pub IsReasonOf : GraphState → Plan → ℕ → Reason → Type 0
IsReasonOf g plan number reason = LeadsTo g plan reason.root reason.links number

-- a reason of some rule: one that holds
abbrev pub IsReason : GraphState → Plan → Reason → Type 0
IsReason g plan reason = (number : ℕ) × IsReasonOf g plan number reason
