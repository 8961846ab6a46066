-- What a refusal of a part becomes for the reading of a project, and for the whole comparison.
use Rattle.tup_site.specs.declared.fault.SiteFailed.TheVariants.{Memory}
use Rattle.tup_project.specs.declared.fault.ProjectFault.{ProjectFault}
use Rattle.tup_project.specs.declared.fault.ProjectFault.TheVariants as project
use Rattle.tup_promise.specs.Stopped.{too_many}
use Rattle.tup_promise.specs.declared.fault.SourcesFault.TheVariants.{Parse, CircularDirs, NoSuchGroup, CircularCommands}
use Rattle.tup_promise.specs.declared.stop.Stop.{Stop}
use Rattle.tup_promise.specs.declared.stop.Stop.TheVariants.{Sources as NoRules, Outside as Stopped}
use Rattle.tup_compare.specs.declared.unread.Unread.{Unread}
use Rattle.tup_compare.specs.declared.unread.Unread.TheVariants.{Sources, Outside}

-- what stops the reading stops the comparison
abbrev pub stop_of : Unread → Stop
stop_of (Sources fault) = NoRules fault
stop_of (Outside failed) = Stopped failed

-- what the reading of the sources ends with
abbrev pub unread_of_project : ProjectFault → Unread
unread_of_project (project.Parse fault) = Sources (Parse fault)
unread_of_project (project.CircularDirs dirs) = Sources (CircularDirs dirs)
unread_of_project (project.NoSuchGroup group) = Sources (NoSuchGroup group)
unread_of_project (project.CircularCommands rules) = Sources (CircularCommands rules)
unread_of_project (project.TooMany what number) = Sources (too_many what number)
unread_of_project project.Memory = Outside Memory
