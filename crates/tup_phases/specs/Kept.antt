-- What the phases make of a site that was kept (own).
use Rattle.std.specs.Prelude.{◌≡◌, ◌⊎◌, ◌↔◌, ⊤, ℕ, ◌≤◌, true, false, [], None, Some}
use Rattle.std.specs.FinMap as finite
use Rattle.tup_path.specs.Name.{Names}
use Rattle.tup_site.specs.World.{World, TreeStays}
use Rattle.tup_site.specs.declared.fault.SiteFailed.TheVariants.{Fault, TooLarge, Memory}
use Rattle.tup_site.specs.declared.site.Site.{Ghosts as Site}
use Rattle.tup_rule.specs.Rule.{is_generated}
use Rattle.tup_rule.specs.declared.rule.Rule.{Rule}
use Rattle.tup_runner.specs.Next.{Next}
use Rattle.tup_graph.specs.declared.owned.Owned.{Owned}
use Rattle.tup_graph.specs.Graph.{GraphState, is_flagged}
use Rattle.tup_graph.specs.Kept.{IsGraphIn, IsKeptSite, IsRuleAt}
use Rattle.tup_graph.specs.Swap.{IsNew}
use Rattle.tup_refresh.specs.declared.refreshed.Refreshed.{Refreshed}
use Rattle.tup_ledger.specs.Sources.{sources_of}
use Rattle.tup_law_phases.specs.Language.{tupfiles}
use Rattle.tup_promise.specs.Blamed.{HasFileOf, IsFaultOf}
use Rattle.tup_promise.specs.Crashes.{OwnsNoMore}
use Rattle.tup_promise.specs.Kept.{AsksFor, HaveTupfiles, OfGraph}
use Rattle.tup_promise.specs.Needed.{IsDue}
use Rattle.tup_promise.specs.States.{KeepsStates, StateStays}
use Rattle.tup_promise.specs.Users.{IsFirstUsersFile}
use Rattle.tup_promise.specs.declared.stop.Stop.{Stop}
use Rattle.tup_promise.specs.declared.stop.Stop.TheVariants.{NoStore, BadStore, Sources, UserFile, Bad, Run, Full, Outside}

-- ---- the site

-- a phase that changes no file and learns no content
pub record LeavesFiles {S : Type 0} (site : Site S) (old new : S) : Type 0 where
  pub later : site.moment old ≤ site.moment new
  pub tree : TreeStays (site.world old) (site.world new)
  pub known : site.known new ≡ site.known old

-- what a crash since a moment may leave is kept, beside the world that was there first
pub record IsKeptSince {S : Type 0} (site : Site S) (next : Next) (first : World) (since : ℕ) (at : S) : Type 0 where
  pub began : since ≤ site.moment at
  pub kept : IsKeptSite next tupfiles (site.known at) first (site.left_since at since)

-- whatever was kept before a phase is kept after it
abbrev pub KeepsOn : {S : Type 0} → Site S → S → S → Type 0
KeepsOn {S} site old new = (next : Next) (first : World) (since : ℕ) → IsKeptSince site next first since old → IsKeptSince site next first since new

-- ---- the graph

-- The paths that no rule makes. One that has lost its maker was owned in the state in which it is, and none of the rules makes it;
-- and one that was owned and that none of the rules makes is owned in that state, and has no maker.
pub record KeepsUnmade (was now : GraphState) : Type 0 where
  pub before : (path : Names) (owned : Owned) → finite.get now.owned path ≡ Some owned → owned.maker ≡ None
      → StateStays was path owned × (is_generated now.rules path ≡ false)
  pub after : (path : Names) (old : Owned) → finite.get was.owned path ≡ Some old → is_generated now.rules path ≡ false
      → (owned : Owned) × (finite.get now.owned path ≡ Some owned) × (owned.maker ≡ None) × (owned.state ≡ old.state)

-- a rule has the record of one that is the same and was there, or none where it is new
abbrev pub KeepsRun : GraphState → GraphState → ℕ → Rule → Type 0
KeepsRun was now number rule =
    ((before : ℕ) × IsRuleAt was before rule × (finite.get now.runs number ≡ finite.get was.runs before)) ⊎ (IsNew was rule × (finite.get now.runs number ≡ None))

-- so has each rule
abbrev pub KeepsRuns : GraphState → GraphState → Type 0
KeepsRuns was now = (number : ℕ) (rule : Rule) → IsRuleAt now number rule → KeepsRun was now number rule

-- no folder is to be read, and each has a Tupfile of which a reading is kept; the rules are those that the sources of a world ask for,
-- with the records that they had, just those that are due there are flagged, and the paths that none of them makes are owned as they were
pub record IsBrought (first : World) (g : GraphState) : Type 0 where
  pub created : g.created ≡ finite.empty
  pub read : OfGraph first (λ was. HaveTupfiles (sources_of was first.tree) g)
  pub rules : AsksFor first g.rules
  pub due : (number : ℕ) → (is_flagged g number ≡ true) ↔ IsDue first g.rules number
  pub unmade : OfGraph first (λ was. KeepsUnmade was g)
  pub runs : OfGraph first (λ was. KeepsRuns was g)

-- a refresh read no folder and lost none, and the graph waits for none
pub record BringsNothing (g : GraphState) (given : Refreshed) : Type 0 where
  pub created : g.created ≡ finite.empty
  pub fresh : given.fresh ≡ []
  pub gone : given.gone ≡ []

-- the rules stay, their records, which of them are to be run, what was read, and which folders are to be read
pub record StaysBrought (old new : GraphState) : Type 0 where
  pub created : new.created ≡ old.created
  pub readings : new.readings ≡ old.readings
  pub rules : new.rules ≡ old.rules
  pub runs : new.runs ≡ old.runs
  pub flags : new.flags ≡ old.flags

-- a graph stays within what a world had: what it flags was due there, and each owned path has the state that it had, is newly
-- owned, or is unsure
pub record StaysWithin (first : World) (g : GraphState) : Type 0 where
  pub due : (number : ℕ) → is_flagged g number ≡ true → IsDue first g.rules number
  pub states : KeepsStates first g

-- so does the graph that stands in the store of another world
abbrev pub HoldsWithin : World → World → Type 0
HoldsWithin first w = (g : GraphState) → IsGraphIn w.store g → StaysWithin first g

-- where the sources of a world are blamed for a stop, or one of its files, it is so
abbrev pub BlamesSources : World → Stop → Type 0
BlamesSources w (Sources fault) = IsFaultOf w fault
BlamesSources w NoStore = ⊤
BlamesSources w (BadStore offset) = ⊤
BlamesSources w (UserFile path written found) = IsFirstUsersFile w path written found
BlamesSources w (Bad name verdict) = ⊤
BlamesSources w Run = ⊤
BlamesSources w Full = ⊤
BlamesSources w (Outside Fault) = ⊤
BlamesSources w (Outside (TooLarge bytes)) = HasFileOf bytes w.tree
BlamesSources w (Outside Memory) = ⊤

-- what owned no more before a phase owns no more after it
abbrev pub OwnsOn : {S : Type 0} → Site S → S → S → Type 0
OwnsOn {S} site old new = (begun : S) (since : ℕ) → since ≤ site.moment old → OwnsNoMore site begun since old → OwnsNoMore site begun since new
