-- The folders whose readings a refresh gives as fresh ones are those that have to be read.
use Rattle.std.proofs.Common.{◌≡◌, inl, inr, List, map, Result, Ok, Err, Contains, IsTrue, IsSome, is_some, refl, sym, ap, ◌∙◌}
use Rattle.std.specs.Bool.{passes}
use Rattle.std.specs.FinMap as finite
use Rattle.tup_path.specs.Name.{Names}
use Rattle.tup_path.specs.Order.{by_names}
use Rattle.tup_path.specs.Tree.{Tree}
use Rattle.tup_site.specs.World.{World}
use Rattle.tup_rule.specs.Rule.{among}
use Rattle.tup_rule.specs.declared.question.Reading.{Reading}
use Rattle.tup_rule.proofs.Laws.{among-decides}
use Rattle.tup_vars.specs.Table.{Entries}
use Rattle.tup_vars.specs.declared.fault.ConfigFault.{ConfigFault}
use Rattle.tup_readings.specs.Sources.{settings_of}
use Rattle.tup_graph.specs.Graph.{GraphState}
use Rattle.tup_ledger.specs.Sources.{sources_of}
use Rattle.tup_ledger.proofs.Keys.{among_keys, sorted_ascend}
use Rattle.tup_refresh.specs.Refresh.{AreRefreshed, IsRefresh, IsRefreshWith}
use Rattle.tup_refresh.specs.declared.refreshed.Refreshed.{Refreshed}
use Rattle.tup_promise.specs.Did.{HasNoted, ReadsWhatIsDue}

-- the folders of some readings
abbrev pub folders_of : List (Names × Reading) → List Names
folders_of readings = map (λ (one : Names × Reading). one.0) readings

-- where they are in order, a folder is among them just where the map of the readings has it
module _ (readings : List (Names × Reading)) (up : IsTrue (finite.is_sorted by_names readings)) (dir : Names) where
  abbrev by_folder : finite.FinMap by_names Reading
  by_folder = finite.from_sorted {R = by_names} readings

  among_them : among dir (folders_of readings) ≡ is_some (finite.get by_folder dir)
  among_them = ap (λ (es : List (Names × Reading)). among dir (folders_of es)) (sym (finite.entries-from_sorted by_names readings (passes _ up))) ∙ among_keys by_folder dir

  has_folder : Contains (folders_of readings) dir → IsSome (finite.get by_folder dir)
  has_folder has = sym among_them ∙ (among-decides dir (folders_of readings)).1 has

  folder_there : IsSome (finite.get by_folder dir) → Contains (folders_of readings) dir
  folder_there there = (among-decides dir (folders_of readings)).0 (among_them ∙ there)

module _ (w : World) (g : GraphState) (found : Refreshed) (noted : HasNoted w g) where
  abbrev sources : Tree
  sources = sources_of g w.tree

  pub reads_due : IsRefresh g sources (Ok found) → ReadsWhatIsDue w (folders_of found.fresh)
  reads_due refreshed = by (settings_of sources) refl refreshed
    where
      over : (settings : Entries) → settings_of sources ≡ Ok settings → AreRefreshed g sources settings found → ReadsWhatIsDue w (folders_of found.fresh)
      over settings is are = record {
        graph = g;
        noted = noted;
        settings = settings;
        config = is;
        readings = found.all;
        are = are.read;
        ascend = sorted_ascend found.fresh are.sorted;
        just = λ dir. (λ has. (are.due dir).0 (has_folder found.fresh are.sorted dir has), λ due. folder_there found.fresh are.sorted dir ((are.due dir).1 due));
      }

      by : (set : Result Entries ConfigFault) → settings_of sources ≡ set → IsRefreshWith g sources set (Ok found) → ReadsWhatIsDue w (folders_of found.fresh)
      by (Ok settings) is are = over settings is are
      by (Err fault) is (inl wrong) = absurd (cc)
      by (Err fault) is (inr wrong) = absurd (cc)
