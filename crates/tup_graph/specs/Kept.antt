-- What every update and every crash leaves of a project: a kept graph, and a kept site (own). It doesn't speak of the tree,
-- so edits of it keep it.
use Rattle.std.specs.Prelude.{◌≡◌, ◌≢◌, ◌⊎◌, ℕ, true, false, List, Option, None, Some, All, Contains, IsSome, slice_get}
use Rattle.std.specs.FinMap as finite
use Rattle.std.specs.List.{IsDistinct}
use Rattle.std.specs.Option.{option_map}
use Rattle.tup_path.specs.Name.{Names, Content}
use Rattle.tup_path.specs.Order.{same_path}
use Rattle.tup_stamp.specs.declared.Stamp.{Stamp}
use Rattle.tup_stamp.specs.Stamp.{stamp}
use Rattle.tup_rule.specs.Rule.{declares, writes}
use Rattle.tup_rule.specs.declared.question.Noted.{Noted}
use Rattle.tup_rule.specs.declared.question.Question.{Question}
use Rattle.tup_rule.specs.declared.question.Reading.{Reading}
use Rattle.tup_rule.specs.declared.rule.Rule.{Rule}
use Rattle.tup_runner.specs.Next.{Next}
use Rattle.tup_record.specs.declared.owned.OwnedState.TheVariants.{Unsure, Written}
use Rattle.tup_record.specs.declared.run.RunRecord.{RunRecord}
use Rattle.tup_site.specs.World.{World}
use Rattle.tup_table.specs.Entries.{entries_of}
use Rattle.tup_table.specs.Store.{IsStore}
use Rattle.tup_table.specs.declared.change.Change.{Change}
use Rattle.tup_graph.specs.declared.owned.Owned.{Owned}
use Rattle.tup_graph.specs.Graph.{GraphState, is_flagged, is_created, is_owned, source}
use Rattle.tup_graph.specs.Opening.{IsGraphOf}
use Rattle.tup_graph.specs.Records.{Language, IsTrueRun, IsTrueReading}
use Rattle.tup_graph.specs.Answers.{tupfile, IsSource, IsAnswer}

-- the rule of a number
abbrev pub IsRuleAt : GraphState → ℕ → Rule → Type 0
IsRuleAt g number rule = slice_get g.rules number ≡ Some rule

-- the rule of a number is up to date: it isn't flagged
pub record IsUnflagged (g : GraphState) (number : ℕ) (rule : Rule) : Type 0 where
  pub here : IsRuleAt g number rule
  pub unflagged : is_flagged g number ≡ false

-- a run asked a path, which is no output of its own
abbrev pub Asked : Rule → RunRecord → Names → Option Stamp → Type 0
Asked rule run path given = Contains run.asks (path, given) × (writes rule path ≡ false)

-- what a run was told and what it wrote has the seen stamps
pub record HasSeenStamps (g : GraphState) (rule : Rule) (run : RunRecord) : Type 0 where
  pub asked : (path : Names) (given : Option Stamp) → Asked rule run path given → given ≡ finite.get g.seen path
  pub wrote : All (λ (file : Names × Stamp). finite.get g.seen file.0 ≡ Some file.1) run.writes

-- every record is true
pub record HasTrueRecords (next : Next) (language : Language) (known : List Content) (g : GraphState) : Type 0 where
  pub runs : (number : ℕ) (rule : Rule) (run : RunRecord) → IsRuleAt g number rule → finite.get g.runs number ≡ Some run → IsTrueRun next known rule run
  pub readings : (dir : Names) (reading : Reading) → finite.get g.readings dir ≡ Some reading → IsTrueReading language known dir reading

-- what a graph says of the files that it sees holds, whatever it said before
pub record AgreesWithSeen (known : List Content) (g : GraphState) : Type 0 where
  -- a rule that isn't flagged was told and wrote the seen stamps, if it has a record
  pub stamps : (number : ℕ) (rule : Rule) (run : RunRecord) → IsUnflagged g number rule → finite.get g.runs number ≡ Some run → HasSeenStamps g rule run
  -- a folder whose Tupfile is a seen source has a reading or is to be read, and what a folder that isn't to be read was
  -- told is what the seen files and the other readings give
  pub read : (dir : Names) → IsSource (source g) (tupfile dir) → is_created g dir ≡ false → IsSome (finite.get g.readings dir)
  pub told : (dir : Names) (reading : Reading) → finite.get g.readings dir ≡ Some reading → is_created g dir ≡ false
      → All (λ (one : Question × Noted). IsAnswer known (source g) g.readings dir one.0 one.1) reading.asked
  -- a rule whose record asks an output of a flagged rule is flagged
  pub upward : (number other : ℕ) (rule reader : Rule) (run : RunRecord) (path : Names) (given : Option Stamp) → IsRuleAt g number rule → is_flagged g number ≡ true
      → IsRuleAt g other reader → finite.get g.runs other ≡ Some run → Contains run.asks (path, given) → writes rule path ≡ true → is_flagged g other ≡ true

-- outputs are owned by their rules, and no other path has a maker
pub record HasMakers (g : GraphState) : Type 0 where
  pub made : (number : ℕ) (rule : Rule) (path : Names) → IsRuleAt g number rule → writes rule path ≡ true
      → (owned : Owned) × (finite.get g.owned path ≡ Some owned) × (owned.maker ≡ Some number)
  pub makers : (path : Names) (owned : Owned) (number : ℕ) → finite.get g.owned path ≡ Some owned → owned.maker ≡ Some number
      → (rule : Rule) × IsRuleAt g number rule × (writes rule path ≡ true)

-- a graph as updates and crashes leave it
pub record IsKept (next : Next) (language : Language) (known : List Content) (g : GraphState) : Type 0 where
  pub records : HasTrueRecords next language known g
  -- a rule that isn't flagged has a record
  pub recorded : (number : ℕ) (rule : Rule) → IsUnflagged g number rule → IsSome (finite.get g.runs number)
  pub agrees : AgreesWithSeen known g
  -- it declares the owned paths that its record asks
  pub declared : (number : ℕ) (rule : Rule) (run : RunRecord) (path : Names) (given : Option Stamp) → IsUnflagged g number rule → finite.get g.runs number ≡ Some run
      → Asked rule run path given → is_owned g path ≡ true → declares rule path ≡ true
  pub owners : HasMakers g
  -- the rules are those that linking gives
  pub linked : language.linked (finite.entries g.readings) ≡ Some g.rules
  -- what a rule that isn't flagged wrote is written so
  pub written : (number : ℕ) (rule : Rule) (run : RunRecord) → IsUnflagged g number rule → finite.get g.runs number ≡ Some run
      → All (λ (file : Names × Stamp). (owned : Owned) × (finite.get g.owned file.0 ≡ Some owned) × (owned.state ≡ Written file.1)) run.writes

-- the good end of the run of a flagged rule, which keeps a kept graph: no output is named twice; the record is true; what
-- it asked, own outputs aside, is seen so; owned paths among that are declared; and what it asked is made by no other rule
-- that is flagged
pub record EndsWell (next : Next) (known : List Content) (g : GraphState) (number : ℕ) (rule : Rule) (run : RunRecord) : Type 0 where
  pub here : IsRuleAt g number rule
  pub flagged : is_flagged g number ≡ true
  pub once : IsDistinct same_path rule.outputs
  pub honest : IsTrueRun next known rule run
  pub seen : (path : Names) (given : Option Stamp) → Asked rule run path given → given ≡ finite.get g.seen path
  pub declared : (path : Names) (given : Option Stamp) → Asked rule run path given → is_owned g path ≡ true → declares rule path ≡ true
  pub unflagged : (path : Names) (given : Option Stamp) (other : ℕ) (maker : Rule) → Contains run.asks (path, given) → IsRuleAt g other maker → writes maker path ≡ true
      → other ≢ number → is_flagged g other ≡ false

-- rules with their readers: whoever asked an output of one of them is one of them too, or is flagged already
abbrev pub AreWithReaders : GraphState → List ℕ → Type 0
AreWithReaders g numbers =
    (number other : ℕ) (rule reader : Rule) (run : RunRecord) (path : Names) (given : Option Stamp) → Contains numbers number → IsRuleAt g number rule
    → IsRuleAt g other reader → finite.get g.runs other ≡ Some run → Contains run.asks (path, given) → writes rule path ≡ true
    → Contains numbers other ⊎ (is_flagged g other ≡ true)

-- the graph in the bytes of a store
pub record IsGraphIn (store : List ℕ) (g : GraphState) : Type 0 where
  pub commits : List (List Change)
  pub reads : IsStore store commits
  pub graph : IsGraphOf (entries_of commits) g

-- the source files of a world are those that its graph doesn't list as owned
abbrev pub file_beside : World → GraphState → Names → Option Content
file_beside world g path = elim (is_owned g path) [ true ↦ None | false ↦ finite.get world.tree path ]

-- a world's store holds a kept graph
pub record IsKeptWorld (next : Next) (language : Language) (known : List Content) (world : World) : Type 0 where
  pub graph : GraphState
  pub reads : IsGraphIn world.store graph
  pub kept : IsKept next language known graph

-- what an owned path that isn't unsure holds in a world that a crash may leave: what it holds in the present, or what is
-- written there
abbrev pub HoldsItsOwn : World → World → Names → Owned → Type 0
HoldsItsOwn present left path owned =
    (owned.state ≡ Unsure) ⊎ (finite.get left.tree path ≡ finite.get present.tree path)
    ⊎ ((seen : Stamp) × (owned.state ≡ Written seen) × (option_map stamp (finite.get left.tree path) ≡ Some seen))

-- a site is kept: its present is, and each world that a crash now may leave is, with the same sources, and holds its own
pub record IsKeptSite (next : Next) (language : Language) (known : List Content) (present : World) (Left : World → Type 0) : Type 0 where
  pub now : IsKeptWorld next language known present
  pub later : (left : World) → Left left → IsKeptWorld next language known left
  pub sources : (left : World) (g : GraphState) → Left left → IsGraphIn left.store g → (path : Names) → file_beside left g path ≡ file_beside present now.graph path
  pub own : (left : World) (g : GraphState) (path : Names) (owned : Owned) → Left left → IsGraphIn left.store g → finite.get g.owned path ≡ Some owned
      → HoldsItsOwn present left path owned
