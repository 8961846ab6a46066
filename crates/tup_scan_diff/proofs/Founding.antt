-- What a scan found, of its parts.
use Rattle.std.specs.Prelude.{◌≡◌, List, [], ◌⊎◌, Ok, Result, Err, codes, Option}
use Rattle.std.proofs.Common.{sym, subst, inl, inr}
use Rattle.std.specs.FinMap as finite
use Rattle.tup_path.specs.Name.{Names, Content}
use Rattle.tup_path.specs.Order.{by_names}
use Rattle.tup_path.specs.Resolve.{resolve}
use Rattle.tup_path.specs.declared.fault.PathFault.{PathFault}
use Rattle.tup_path.specs.declared.fault.PathFault.TheVariants.{Memory}
use Rattle.tup_stamp.specs.declared.Stamp.{Stamp}
use Rattle.tup_graph.specs.Answers.{IsSource, tup_config}
use Rattle.tup_graph.specs.Graph.{GraphState, source}
use Rattle.tup_scan_diff.specs.Index.{IsIndexOf, IsSourceAmong}
use Rattle.tup_scan_diff.specs.Made.{AreMade}
use Rattle.tup_scan_diff.specs.Parents.{AreParents}
use Rattle.tup_scan_diff.specs.Present.{seeing, graph_of, stamps_in, IsPresent}
use Rattle.tup_scan_diff.specs.Settings.{AreSettings}
use Rattle.tup_scan_diff.specs.declared.index.Index.{Index}
use Rattle.tup_scan_diff.specs.declared.present.Present.{Present}
use Rattle.tup_scan_diff.proofs.Indexed.{index_of_sources}

-- the path that its text names
pub config_path_is : (path : Names) → ◌≡◌ {A = Result Names PathFault} (Ok path) (Err Memory) ⊎ (Ok path ≡ resolve [] (codes "tup.config")) → path ≡ tup_config
config_path_is path (inl e) = absurd (cc)
config_path_is path (inr e) = let same : Ok path ≡ Ok tup_config = e in cc

-- an index of the sources among files is one of the sources of the graph that was found to see them
pub index_found : (g : GraphState) (stamps : finite.FinMap by_names Stamp) (files : List (Names × Stamp)) (index : Index) → stamps ≡ finite.from_entries files → IsIndexOf (IsSourceAmong g files) index → IsIndexOf (IsSource (source (seeing g stamps))) index
index_found g stamps files index are is = subst (λ (m : finite.FinMap by_names Stamp). IsIndexOf (IsSource (source (seeing g m))) index) (sym are) (index_of_sources g files index is)

pub present_is : (present : Present) (files : List (Names × Stamp)) (config : Option Content) (stamp : Option Stamp) → stamps_in present ≡ finite.from_entries files
    → IsIndexOf (IsSourceAmong present.nodes.now files) present.index → AreParents present.index.folders.keys present.parents → AreMade present.nodes.now.readings present.made → stamp ≡ source (graph_of present) tup_config → AreSettings config stamp present.settings → IsPresent config present
present_is present files config stamp stamps index parents made seen settings = record {
  index = index_found present.nodes.now (stamps_in present) files present.index stamps index;
  parents = parents;
  made = made;
  settings = subst (λ (s : Option Stamp). AreSettings config s present.settings) seen settings;
}
