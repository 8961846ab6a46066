-- Why the readings of a site aren't refreshed (own).
use Rattle.std.specs.Prelude.{◌≡◌, ℕ, Result, Ok, Err}
use Rattle.tup_path.specs.Name.{Names}
use Rattle.tup_path.specs.Tree.{Tree}
use Rattle.tup_site.specs.Cause.{Counts, IsTooLarge, TellsLarge}
use Rattle.tup_site.specs.declared.fault.SiteFailed.{SiteFailed}
use Rattle.tup_site.specs.declared.fault.SiteFailed.TheVariants as site
use Rattle.tup_vars.specs.Table.{Entries}
use Rattle.tup_readings.specs.Readings.{AreRead}
use Rattle.tup_readings.specs.declared.fault.FoldersFault.{FoldersFault}
use Rattle.tup_readings.specs.declared.fault.FoldersFault.TheVariants as folders
use Rattle.tup_graph.specs.Graph.{GraphState}
use Rattle.tup_refresh.specs.declared.fault.RefreshFault.{RefreshFault}
use Rattle.tup_refresh.specs.declared.fault.RefreshFault.TheVariants.{Parse, Circular, Site, TooLarge, Memory}
use Rattle.tup_refresh.specs.declared.refreshed.Refreshed.{Refreshed}
use Rattle.tup_refresh.specs.Refresh.{AreRefreshed, IsRefresh}

-- how a refusal of the site is told
abbrev pub of_site : SiteFailed → RefreshFault
of_site site.Fault = Site
of_site (site.TooLarge bytes) = TooLarge bytes
of_site site.Memory = Memory

-- and one of reading the folders
abbrev pub of_folders : FoldersFault → RefreshFault
of_folders (folders.Parse fault) = Parse fault
of_folders (folders.Circular dirs) = Circular dirs
of_folders folders.Memory = Memory

-- the site's count rises with each `Site`, and at no other answer
abbrev pub CountsFaults : {T : Type 0} → ℕ → ℕ → Result T RefreshFault → Type 0
CountsFaults before now result = Counts Site before now result

-- only a file that is longer than a file may be is too large
abbrev pub OnlyLarge : {T : Type 0} → Result T RefreshFault → Type 0
OnlyLarge result = TellsLarge TooLarge result

-- the length that is told is that of a file of this tree
abbrev pub NamesLength : {T : Type 0} → Tree → Result T RefreshFault → Type 0
NamesLength tree result = (bytes : ℕ) → result ≡ Err (TooLarge bytes) → (path : Names) × IsTooLarge tree path bytes

-- ---- what comes of a refresh over a site

-- a fault of some sources is the first that reading all folders meets
abbrev pub IsFaultOf : Tree → Entries → RefreshFault → Type 0
IsFaultOf sources settings (Parse fault) = AreRead sources settings (Err (folders.Parse fault))
IsFaultOf sources settings (Circular dirs) = AreRead sources settings (Err (folders.Circular dirs))
IsFaultOf sources settings Site = Unit {0}
IsFaultOf sources settings (TooLarge bytes) = Unit {0}
IsFaultOf sources settings Memory = Unit {0}

-- the readings over these settings, or why there are none
abbrev pub IsWalkedOf : GraphState → Tree → Entries → Result Refreshed RefreshFault → Type 0
IsWalkedOf g sources settings (Ok given) = AreRefreshed g sources settings given
IsWalkedOf g sources settings (Err fault) = IsFaultOf sources settings fault

-- the readings, or why there are none; what the site refuses is told by other clauses
abbrev pub IsRefreshOf : GraphState → Tree → Result Refreshed RefreshFault → Type 0
IsRefreshOf g sources (Ok given) = IsRefresh g sources (Ok given)
IsRefreshOf g sources (Err (Parse fault)) = IsRefresh g sources (Err (folders.Parse fault))
IsRefreshOf g sources (Err (Circular dirs)) = IsRefresh g sources (Err (folders.Circular dirs))
IsRefreshOf g sources (Err Site) = Unit {0}
IsRefreshOf g sources (Err (TooLarge bytes)) = Unit {0}
IsRefreshOf g sources (Err Memory) = Unit {0}
