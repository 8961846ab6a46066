-- What an update makes of the states of owned paths (own).
use Rattle.std.specs.Prelude.{◌≡◌, ◌⊎◌, List, None, Some, Ok}
use Rattle.std.specs.FinMap as finite
use Rattle.tup_path.specs.Name.{Names}
use Rattle.tup_site.specs.World.{World}
use Rattle.tup_rule.specs.declared.rule.Rule.{Rule}
use Rattle.tup_runner.specs.Next.{Next}
use Rattle.tup_clean.specs.Clean.{clean}
use Rattle.tup_project.specs.Project.{ComeTo}
use Rattle.tup_record.specs.declared.owned.OwnedState.TheVariants.{Never, Unsure}
use Rattle.tup_graph.specs.declared.owned.Owned.{Owned}
use Rattle.tup_graph.specs.Graph.{GraphState}
use Rattle.tup_ledger.specs.Sources.{sources_of}
use Rattle.tup_promise.specs.Finished.{IsAsWritten}
use Rattle.tup_promise.specs.Kept.{OfGraph}

-- a path was owned in this state before
abbrev pub StateStays : GraphState → Names → Owned → Type 0
StateStays g path owned = (was : Owned) × (finite.get g.owned path ≡ Some was) × (owned.state ≡ was.state)

-- a path wasn't owned before, and nothing was written there yet
abbrev pub IsNewlyOwned : GraphState → Names → Owned → Type 0
IsNewlyOwned g path owned = (finite.get g.owned path ≡ None) × (owned.state ≡ Never)

-- each owned path of a graph has the state that it had in a world, or is newly owned, or unsure
abbrev pub KeepsStates : World → GraphState → Type 0
KeepsStates w h =
    OfGraph w (λ g. (path : Names) (owned : Owned) → finite.get h.owned path ≡ Some owned → StateStays g path owned ⊎ IsNewlyOwned g path owned ⊎ (owned.state ≡ Unsure))

-- what a clean build of the sources of a world leaves at a path was written there
abbrev pub IsWrittenClean : Next → World → Names → Owned → Type 0
IsWrittenClean next w path owned =
    OfGraph w (λ g. (rules : List Rule) × ComeTo (sources_of g w.tree) (Ok rules) × IsAsWritten (clean next rules (sources_of g w.tree)).tree path owned)

-- each owned path has the state that it had, or is newly owned, or unsure, or holds what the clean build leaves there
abbrev pub States : Next → World → World → Type 0
States next old new =
    OfGraph old (λ g. OfGraph new (λ h. (path : Names) (owned : Owned) → finite.get h.owned path ≡ Some owned
    → StateStays g path owned ⊎ IsNewlyOwned g path owned ⊎ (owned.state ≡ Unsure) ⊎ IsWrittenClean next old path owned))
