-- What the sources are blamed for.
use Rattle.std.proofs.Common.{◌≡◌, inl, ℕ, length, Err, Result, refl, sym, ap, subst, ◌∙◌}
use Rattle.std.specs.FinMap as finite
use Rattle.tup_path.specs.Tree.{Tree}
use Rattle.tup_site.specs.Cause.{IsTooLarge, NeverTooLarge}
use Rattle.tup_site.specs.World.{World}
use Rattle.tup_site.specs.declared.fault.SiteFailed.{SiteFailed}
use Rattle.tup_site.specs.declared.fault.SiteFailed.TheVariants as failed
use Rattle.tup_link.specs.declared.fault.What.TheVariants.{Commands, Links}
use Rattle.tup_project.specs.Project.{ComeTo}
use Rattle.tup_project.specs.declared.fault.ProjectFault.{ProjectFault}
use Rattle.tup_project.specs.declared.fault.ProjectFault.TheVariants as project
use Rattle.tup_graph.specs.Graph.{GraphState}
use Rattle.tup_graph.specs.Kept.{IsGraphIn}
use Rattle.tup_graph.specs.declared.fault.GraphFault.{GraphFault}
use Rattle.tup_graph.specs.declared.fault.GraphFault.TheVariants as graph
use Rattle.tup_ledger.specs.Sources.{sources_of}
use Rattle.tup_scan.specs.Cause.{IsOf}
use Rattle.tup_scan.specs.declared.fault.ScanFault.{ScanFault}
use Rattle.tup_scan.specs.declared.fault.ScanFault.TheVariants as scan
use Rattle.tup_refresh.specs.Cause.{IsRefreshOf}
use Rattle.tup_refresh.specs.declared.fault.RefreshFault.{RefreshFault}
use Rattle.tup_refresh.specs.declared.fault.RefreshFault.TheVariants as refresh
use Rattle.tup_readings.specs.declared.fault.FoldersFault.TheVariants as folders
use Rattle.tup_refresh.proofs.Ending.{refreshed_read}
use Rattle.tup_stale.specs.declared.fault.StaleFault.{StaleFault}
use Rattle.tup_stale.specs.declared.fault.StaleFault.TheVariants as stale
use Rattle.tup_stale.specs.Unmade.{Sees, unmade}
use Rattle.tup_promise.specs.Blamed.{HasFileOf}
use Rattle.tup_promise.specs.Stopped.{stop_of_graph, stop_of_project, stop_of_refresh, stop_of_scan, stop_of_stale}
use Rattle.tup_promise.specs.declared.stop.Stop.TheVariants.{Outside}
use Rattle.tup_phases.specs.Kept.{BlamesSources, IsBrought}
use Rattle.tup_phases.proofs.Users.{met_users}

-- a call of the site that reads no file blames none
pub site_blames : {T : Type 0} (first : World) (result : Result T SiteFailed) (fault : SiteFailed) → result ≡ Err fault → NeverTooLarge result → BlamesSources first (Outside fault)
site_blames first result failed.Fault is never = tt
site_blames first result (failed.TooLarge n) is never = absurd (never n is)
site_blames first result failed.Memory is never = tt

-- a commit blames no sources
pub graph_blames : (first : World) (fault : GraphFault) → BlamesSources first (stop_of_graph fault)
graph_blames first graph.NotThere = tt
graph_blames first (graph.BadStore offset) = tt
graph_blames first graph.Site = tt
graph_blames first graph.Full = tt
graph_blames first graph.Memory = tt

-- a clearing blames a file of the user's, or one that is too large
pub stale_blames : (first : World) (g : GraphState) (tree : Tree) (fault : StaleFault) → IsBrought first g → tree ≡ first.tree → Sees g tree (unmade g) (Err fault) → BlamesSources first (stop_of_stale fault)
stale_blames first g tree (stale.UserFile path written found) brought same sees = met_users first g tree brought same path written found sees
stale_blames first g tree stale.Site brought same sees = tt
stale_blames first g tree (stale.TooLarge n) brought same sees = (sees.path, subst (λ (t : Tree). IsTooLarge t sees.path n) same sees.large)
stale_blames first g tree stale.Full brought same sees = tt
stale_blames first g tree stale.Memory brought same sees = tt

-- a scan counts the files, and looks at each
pub scan_blames : {T : Type 0} (first : World) (tree : Tree) (result : Result T ScanFault) (fault : ScanFault) → tree ≡ first.tree → result ≡ Err fault → IsOf tree result → BlamesSources first (stop_of_scan fault)
scan_blames first tree result scan.Site same is named = tt
scan_blames first tree result (scan.TooLarge n) same is named = let it = named.bytes n is in (it.0, subst (λ (t : Tree). IsTooLarge t it.0 n) same it.1)
scan_blames first tree result (scan.TooManyFiles n) same is named = sym (named.files n is ∙ ap (λ (t : Tree). length (finite.keys t)) same)
scan_blames first tree result scan.Memory same is named = tt

module _ (first : World) (was : GraphState) (stored : IsGraphIn first.store was) where
  -- a fault of linking is one of the sources
  pub link_blames : (fault : ProjectFault) → ComeTo (sources_of was first.tree) (Err fault) → BlamesSources first (stop_of_project fault)
  link_blames (project.Parse fault) comes = (was, stored, (project.Parse fault, comes, refl))
  link_blames (project.CircularDirs dirs) comes = (was, stored, (project.CircularDirs dirs, comes, refl))
  link_blames (project.NoSuchGroup group) comes = (was, stored, (project.NoSuchGroup group, comes, refl))
  link_blames (project.CircularCommands names) comes = (was, stored, (project.CircularCommands names, comes, refl))
  link_blames (project.TooMany Commands number) comes = (was, stored, (project.TooMany Commands number, comes, refl))
  link_blames (project.TooMany Links number) comes = (was, stored, (project.TooMany Links number, comes, refl))
  link_blames project.Memory comes = tt

  -- so is one of the readings
  pub refresh_blames : (g : GraphState) (fault : RefreshFault) → IsRefreshOf g (sources_of was first.tree) (Err fault) → ((n : ℕ) → fault ≡ refresh.TooLarge n → HasFileOf n first.tree)
      → BlamesSources first (stop_of_refresh fault)
  refresh_blames g (refresh.Parse fault) is large =
      (was, stored, (project.Parse fault, inl (refreshed_read g (sources_of was first.tree) (Err (folders.Parse fault)) is), refl))
  refresh_blames g (refresh.Circular dirs) is large =
      (was, stored, (project.CircularDirs dirs, refreshed_read g (sources_of was first.tree) (Err (folders.Circular dirs)) is, refl))
  refresh_blames g refresh.Site is large = tt
  refresh_blames g (refresh.TooLarge n) is large = large n refl
  refresh_blames g refresh.Memory is large = tt
