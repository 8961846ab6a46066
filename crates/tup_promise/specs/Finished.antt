-- A finished project: its files are those of a clean build of its sources (own).
use Rattle.std.specs.Prelude.{◌≡◌, ⊤, ℕ, true, List, Option, None, Some, Ok}
use Rattle.std.specs.FinMap as finite
use Rattle.tup_path.specs.Name.{Names}
use Rattle.tup_path.specs.Tree.{Tree}
use Rattle.tup_site.specs.World.{World}
use Rattle.tup_site.specs.declared.site.Site.{Ghosts as Site}
use Rattle.tup_stamp.specs.declared.Stamp.{Stamp}
use Rattle.tup_rule.specs.Rule.{is_generated}
use Rattle.tup_rule.specs.declared.rule.Rule.{Rule}
use Rattle.tup_runner.specs.Next.{Next}
use Rattle.tup_clean.specs.Clean.{clean, succeeds}
use Rattle.tup_project.specs.Project.{ComeTo}
use Rattle.tup_record.specs.declared.owned.OwnedState.TheVariants.{Written}
use Rattle.tup_graph.specs.declared.owned.Owned.{Owned}
use Rattle.tup_graph.specs.Graph.{GraphState, is_owned}
use Rattle.tup_graph.specs.Reach.{stamp_in, IsReached}
use Rattle.tup_ledger.specs.Sources.{IsDurable, sources_of}
use Rattle.tup_law_site.specs.Over.{LeftNow}
use Rattle.tup_promise.specs.Kept.{HaveTupfiles, OfGraph}
use Rattle.tup_promise.specs.declared.stop.Stop.{Stop}

-- an owned path is written with the stamp of the file that stands there
abbrev pub IsAsWritten : Tree → Names → Owned → Type 0
IsAsWritten tree path owned = (seen : Stamp) × (owned.state ≡ Written seen) × (stamp_in tree path ≡ Some seen)

-- a graph and a tree are those of a finished project with these sources
pub record IsFinished (next : Next) (sources : Tree) (h : GraphState) (tree : Tree) : Type 0 where
  -- the files that aren't owned are the sources, and the rules are those that they ask for
  pub sources_are : sources_of h tree ≡ sources
  pub rules : ComeTo sources (Ok h.rules)
  -- the clean build of the sources succeeds, and the files are those that it leaves, no more and no less
  pub builds : succeeds (clean next h.rules sources) ≡ true
  pub files : tree ≡ (clean next h.rules sources).tree
  -- the outputs of the rules are owned, and nothing else is; each is written as it stands
  pub owned : (path : Names) → is_owned h path ≡ is_generated h.rules path
  pub written : (path : Names) (owner : Owned) → finite.get h.owned path ≡ Some owner → IsAsWritten tree path owner
  -- each file was seen as it is, and each folder of which a reading is kept has a Tupfile
  pub seen : (path : Names) → finite.get h.seen path ≡ stamp_in tree path
  pub read : HaveTupfiles sources h
  -- no folder is to be read, and no rule to be run
  pub created : h.created ≡ finite.empty
  pub none_due : (asked : List Rule) (at : ℕ) → ComeTo sources (Ok asked) → IsReached h tree asked at → ⊥

-- an update that reports success leaves exactly the files of a clean build of the sources that it began with
abbrev pub ExactlyTheFiles : Next → World → World → Option Stop → Type 0
ExactlyTheFiles next old new None = OfGraph old (λ g. OfGraph new (λ h. IsFinished next (sources_of g old.tree) h new.tree))
ExactlyTheFiles next old new (Some stop) = ⊤

-- a crash now leaves a site as it is, all its files and its store
abbrev pub IsSettled : {S : Type 0} → Site S → S → Type 0
IsSettled site at = IsDurable (LeftNow site at) (site.world at)
