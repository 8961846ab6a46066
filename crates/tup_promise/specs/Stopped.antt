-- What stops an update, by what a phase of it was refused for.
use Rattle.std.specs.Prelude.{ℕ}
use Rattle.tup_site.specs.declared.fault.SiteFailed.TheVariants.{Fault, TooLarge, Memory}
use Rattle.tup_link.specs.declared.fault.What.{What}
use Rattle.tup_link.specs.declared.fault.What.TheVariants.{Commands, Links}
use Rattle.tup_project.specs.declared.fault.ProjectFault.{ProjectFault}
use Rattle.tup_project.specs.declared.fault.ProjectFault.TheVariants as project
use Rattle.tup_graph.specs.declared.fault.GraphFault.{GraphFault}
use Rattle.tup_graph.specs.declared.fault.GraphFault.TheVariants as graph
use Rattle.tup_scan.specs.declared.fault.ScanFault.{ScanFault}
use Rattle.tup_scan.specs.declared.fault.ScanFault.TheVariants as scan
use Rattle.tup_refresh.specs.declared.fault.RefreshFault.{RefreshFault}
use Rattle.tup_refresh.specs.declared.fault.RefreshFault.TheVariants as refresh
use Rattle.tup_stale.specs.declared.fault.StaleFault.{StaleFault}
use Rattle.tup_stale.specs.declared.fault.StaleFault.TheVariants as stale
use Rattle.tup_promise.specs.declared.fault.SourcesFault.{SourcesFault}
use Rattle.tup_promise.specs.declared.fault.SourcesFault.TheVariants.{TooManyFiles, Parse, CircularDirs, TooManyCommands, NoSuchGroup, TooManyLinks, CircularCommands}
use Rattle.tup_promise.specs.declared.stop.Stop.{Stop}
use Rattle.tup_promise.specs.declared.stop.Stop.TheVariants.{NoStore, BadStore, Sources, UserFile, Full, Outside}

-- there was no memory
abbrev pub no_memory : Stop
no_memory = Outside Memory

-- opening the store, or a commit to it
abbrev pub stop_of_graph : GraphFault → Stop
stop_of_graph graph.NotThere = NoStore
stop_of_graph (graph.BadStore offset) = BadStore offset
stop_of_graph graph.Site = Outside Fault
stop_of_graph graph.Full = Full
stop_of_graph graph.Memory = Outside Memory

-- the scan
abbrev pub stop_of_scan : ScanFault → Stop
stop_of_scan scan.Site = Outside Fault
stop_of_scan (scan.TooLarge bytes) = Outside (TooLarge bytes)
stop_of_scan (scan.TooManyFiles number) = Sources (TooManyFiles number)
stop_of_scan scan.Memory = Outside Memory

-- the refresh of the readings
abbrev pub stop_of_refresh : RefreshFault → Stop
stop_of_refresh (refresh.Parse fault) = Sources (Parse fault)
stop_of_refresh (refresh.Circular dirs) = Sources (CircularDirs dirs)
stop_of_refresh refresh.Site = Outside Fault
stop_of_refresh (refresh.TooLarge bytes) = Outside (TooLarge bytes)
stop_of_refresh refresh.Memory = Outside Memory

-- a limit of linking that is passed
abbrev pub too_many : What → ℕ → SourcesFault
too_many Commands number = TooManyCommands number
too_many Links number = TooManyLinks number

-- the linking of the rules
abbrev pub stop_of_project : ProjectFault → Stop
stop_of_project (project.Parse fault) = Sources (Parse fault)
stop_of_project (project.CircularDirs dirs) = Sources (CircularDirs dirs)
stop_of_project (project.NoSuchGroup group) = Sources (NoSuchGroup group)
stop_of_project (project.CircularCommands rules) = Sources (CircularCommands rules)
stop_of_project (project.TooMany what number) = Sources (too_many what number)
stop_of_project project.Memory = Outside Memory

-- the removal of files that no rule makes any more
abbrev pub stop_of_stale : StaleFault → Stop
stop_of_stale (stale.UserFile path written found) = UserFile path written found
stop_of_stale stale.Site = Outside Fault
stop_of_stale (stale.TooLarge bytes) = Outside (TooLarge bytes)
stop_of_stale stale.Full = Full
stop_of_stale stale.Memory = Outside Memory
