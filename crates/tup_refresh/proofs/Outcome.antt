-- What a refresh over a site comes to.
use Rattle.std.proofs.Common.{◌≡◌, [], Option, Result, Ok, Err, sym, ap, subst}
use Rattle.std.specs.Prelude.{unwrap_or}
use Rattle.tup_path.specs.Name.{Content}
use Rattle.tup_path.specs.Tree.{Tree}
use Rattle.tup_vars.specs.Config.{config_of}
use Rattle.tup_vars.specs.Table.{Entries}
use Rattle.tup_vars.specs.declared.fault.ConfigFault.{ConfigFault}
use Rattle.tup_readings.specs.Readings.{IsConfig}
use Rattle.tup_readings.specs.Sources.{settings_of}
use Rattle.tup_readings.specs.declared.fault.FoldersFault.{FoldersFault}
use Rattle.tup_readings.specs.declared.fault.FoldersFault.TheVariants as folders
use Rattle.tup_graph.specs.Graph.{GraphState}
use Rattle.tup_refresh.specs.declared.fault.RefreshFault.{RefreshFault}
use Rattle.tup_refresh.specs.declared.fault.RefreshFault.TheVariants.{Parse, Circular, Site, TooLarge, Memory}
use Rattle.tup_refresh.specs.declared.refreshed.Refreshed.{Refreshed}
use Rattle.tup_refresh.specs.Cause.{of_folders, IsRefreshOf, IsWalkedOf}
use Rattle.tup_refresh.specs.Part.{HasConfig}
use Rattle.tup_refresh.specs.Refresh.{IsRefresh, IsRefreshWith}
use Rattle.tup_refresh.proofs.Ending.{refresh_err}

-- the same tup.config sets the same
pub settings_alike : (sources outline : Tree) → HasConfig sources outline → settings_of outline ≡ settings_of sources
settings_alike sources outline same = ap (λ (found : Option Content). config_of (unwrap_or found [])) same

pub walked_of : (g : GraphState) (sources : Tree) (settings : Entries) (result : Result Refreshed RefreshFault) → settings_of sources ≡ Ok settings → IsWalkedOf g sources settings result → IsRefreshOf g sources result
walked_of g sources settings (Ok given) set is = subst (λ (found : Result Entries ConfigFault). IsRefreshWith g sources found (Ok given)) (sym set) is
walked_of g sources settings (Err (Parse fault)) set is = subst (λ (found : Result Entries ConfigFault). IsRefreshWith g sources found (Err (folders.Parse fault))) (sym set) is
walked_of g sources settings (Err (Circular dirs)) set is = subst (λ (found : Result Entries ConfigFault). IsRefreshWith g sources found (Err (folders.Circular dirs))) (sym set) is
walked_of g sources settings (Err Site) set is = tt
walked_of g sources settings (Err (TooLarge bytes)) set is = tt
walked_of g sources settings (Err Memory) set is = tt

of_fault : (g : GraphState) (sources : Tree) (fault : FoldersFault) → IsRefresh g sources (Err fault) → IsRefreshOf g sources (Err (of_folders fault))
of_fault g sources (folders.Parse fault) is = is
of_fault g sources (folders.Circular dirs) is = is
of_fault g sources folders.Memory is = tt

-- where tup.config has a fault
pub unset_of : (g : GraphState) (sources outline : Tree) (fault : FoldersFault) → HasConfig sources outline → IsConfig (settings_of outline) (Err fault) → IsRefreshOf g sources (Err (of_folders fault))
unset_of g sources outline fault same is =
    of_fault g sources fault (refresh_err g sources sources fault (λ i. sources) (subst (λ (found : Result Entries ConfigFault). IsConfig found (Err fault)) (settings_alike sources outline same) is))
