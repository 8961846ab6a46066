-- Which rules an update runs: each at most once, and only what a change or an unfinished run reaches (own).
use Rattle.std.specs.Prelude.{◌≡◌, ◌<◌, ⊤, ℕ, Bool, true, false, List, [], ◌∷◌, ◌++◌, Option, None, Some, All, Contains, slice_get}
use Rattle.tup_site.specs.World.{World}
use Rattle.tup_rule.specs.Producer.{DeclaredProducer}
use Rattle.tup_rule.specs.Rule.{name_of}
use Rattle.tup_rule.specs.declared.rule.Rule.{Rule}
use Rattle.tup_rule.specs.declared.rule.RuleName.{RuleName}
use Rattle.tup_runner.specs.Next.{Next}
use Rattle.tup_clean.specs.AnyOrder.{AreProducersGood}
use Rattle.tup_clean.specs.Clean.{clean}
use Rattle.tup_graph.specs.Graph.{is_flagged}
use Rattle.tup_graph.specs.Reach.{IsReached}
use Rattle.tup_ledger.specs.Sources.{sources_of}
use Rattle.tup_promise.specs.Kept.{AsksFor, OfGraph}
use Rattle.tup_promise.specs.declared.stop.Stop.{Stop}
use Rattle.tup_promise.specs.declared.stop.Stop.TheVariants.{NoStore, BadStore, Sources, UserFile, Bad, Run, Full, Outside}

-- a rule of these is due in a world: by its files and by what its store has of the last runs, it has to be run
abbrev pub IsDue : World → List Rule → ℕ → Type 0
IsDue w rules at = OfGraph w (λ g. IsReached g w.tree rules at)

-- the rule at a place has this name
abbrev pub HasName : List Rule → ℕ → RuleName → Type 0
HasName rules at name = (rule : Rule) × (slice_get rules at ≡ Some rule) × (name_of rule ≡ name)

-- the names are those of rules that the sources ask for, and that are due
pub record IsDueName (w : World) (name : RuleName) : Type 0 where
  pub rules : List Rule
  pub asked : AsksFor w rules
  pub at : ℕ
  pub named : HasName rules at name
  pub due : IsDue w rules at

-- each rule that is due is among the names
abbrev pub NamesAllDue : World → List RuleName → Type 0
NamesAllDue w names = (rules : List Rule) (at : ℕ) (name : RuleName) → AsksFor w rules → IsDue w rules at → HasName rules at name → Contains names name

-- so is each whose declared producers are all Good in the clean build of the sources
abbrev pub NamesAllThatCan : Next → World → List RuleName → Type 0
NamesAllThatCan next w names =
    (rules : List Rule) (at : ℕ) (rule : Rule) → AsksFor w rules → IsDue w rules at → slice_get rules at ≡ Some rule
    → OfGraph w (λ g. AreProducersGood rules (clean next rules (sources_of g w.tree)).verdicts rule) → Contains names (name_of rule)

-- a declared producer that is run is run before the rule that waits for it
abbrev pub AreInOrder : World → List RuleName → Type 0
AreInOrder w names =
    (rules : List Rule) (at other sooner later : ℕ) (rule : Rule) (name : RuleName) → AsksFor w rules → slice_get rules at ≡ Some rule
    → DeclaredProducer rules rule other → HasName rules other name → slice_get names later ≡ Some (name_of rule) → slice_get names sooner ≡ Some name → sooner < later

-- An update that reports success ran all that was due. One that met a bad verdict and was to go on ran all that it could, and
-- one that was not to go on ran nothing after the bad rule, where it has one runner. `jobs` is how many it has.
abbrev pub RunsAll : Next → Bool → ℕ → World → List RuleName → Option Stop → Type 0
RunsAll next keep_going jobs w ran None = NamesAllDue w ran
RunsAll next true jobs w ran (Some (Bad name verdict)) = NamesAllThatCan next w ran
RunsAll next false jobs w ran (Some (Bad name verdict)) = jobs ≡ 1 → (front : List RuleName) × (ran ≡ front ++ name ∷ [])
RunsAll next keep_going jobs w ran (Some NoStore) = ⊤
RunsAll next keep_going jobs w ran (Some (BadStore offset)) = ⊤
RunsAll next keep_going jobs w ran (Some (Sources fault)) = ⊤
RunsAll next keep_going jobs w ran (Some (UserFile path written found)) = ⊤
RunsAll next keep_going jobs w ran (Some Run) = ⊤
RunsAll next keep_going jobs w ran (Some Full) = ⊤
RunsAll next keep_going jobs w ran (Some (Outside failed)) = ⊤

-- what an update ran was needed
pub record RunsWhatIsNeeded (next : Next) (keep_going : Bool) (jobs : ℕ) (w : World) (ran : List RuleName) (stopped : Option Stop) : Type 0 where
  -- no rule was run twice
  pub once : (one other : ℕ) (name : RuleName) → slice_get ran one ≡ Some name → slice_get ran other ≡ Some name → one ≡ other
  pub due : All (IsDueName w) ran
  pub in_order : AreInOrder w ran
  pub all : RunsAll next keep_going jobs w ran stopped

-- each rule that is flagged in the graph of a world was due in one before
abbrev pub FlagsWhatWasDue : World → World → Type 0
FlagsWhatWasDue old new = OfGraph new (λ h. (number : ℕ) → is_flagged h number ≡ true → IsDue old h.rules number)

-- and an update leaves no more to run than was due
pub record OnlyWhatIsNeeded (next : Next) (keep_going : Bool) (jobs : ℕ) (old new : World) (ran : List RuleName) (stopped : Option Stop) : Type 0 where
  pub runs : RunsWhatIsNeeded next keep_going jobs old ran stopped
  pub flagged : FlagsWhatWasDue old new
