-- The folders whose readings are swapped in are those that have to be read in the world that was there first.
use Rattle.std.proofs.Common.{◌≡◌, List, map, Option, Ok, refl, sym, subst}
use Rattle.std.specs.FinMap as finite
use Rattle.tup_path.specs.Name.{Names, Content}
use Rattle.tup_path.specs.Tree.{Tree}
use Rattle.tup_site.specs.World.{World, TreeStays}
use Rattle.tup_graph.specs.Answers.{tup_config}
use Rattle.tup_graph.specs.Graph.{GraphState}
use Rattle.tup_graph.specs.Kept.{IsGraphIn}
use Rattle.tup_ledger.specs.Sources.{sources_of}
use Rattle.tup_rule_diff.specs.Edits.{dir_of}
use Rattle.tup_refresh.specs.Refresh.{IsRefresh}
use Rattle.tup_refresh.specs.declared.refreshed.Refreshed.{Refreshed}
use Rattle.tup_promise.specs.Did.{HasNoted, IsNoted, IsScannedFrom, ReadsWhatIsDue}
use Rattle.tup_promise.proofs.Reading.{reads_due}
use Rattle.tup_phases.specs.Prepared.{HasSeen}

-- the graph of a world was scanned while its files were as they were first
pub noted_since : (first mid now : World) (was g : GraphState) (config : Option Content) → IsGraphIn first.store was → IsScannedFrom was config g → config ≡ finite.get mid.tree tup_config → TreeStays first mid → TreeStays first now → IsNoted first now g
noted_since first mid now was g config stored scanned is before stays = record {
  was = was;
  stored = stored;
  scanned = subst (λ (tree : Tree). IsScannedFrom was (finite.get tree tup_config) g) before (subst (λ (found : Option Content). IsScannedFrom was found g) is scanned);
  tree = stays;
}

module _ (first now : World) (g : GraphState) (noted : IsNoted first now g) (seen : HasSeen g now.tree) where
  has_noted : HasNoted first g
  has_noted = record { noted = record { was = noted.was; stored = noted.stored; scanned = noted.scanned; tree = refl }; seen = subst (HasSeen g) noted.tree seen }

  pub reads_these : (found : Refreshed) (read : List Names) → IsRefresh g (sources_of g now.tree) (Ok found) → read ≡ map dir_of found.fresh → ReadsWhatIsDue first read
  reads_these found read refreshed are =
      subst (ReadsWhatIsDue first) (sym are) (reads_due first g found has_noted (subst (λ (tree : Tree). IsRefresh g (sources_of g tree) (Ok found)) noted.tree refreshed))
