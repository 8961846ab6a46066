-- What a log tells, and what is left of the files, where an update stops before its rules are run.
use Rattle.std.proofs.Common.{◌≡◌, inl, inr, [], IsTrue, Bool, List, Some, Err, ap, ◌∙◌}
use Rattle.tup_path.specs.Name.{Names}
use Rattle.tup_site.specs.World.{World, TreeStays}
use Rattle.tup_stored_graph.specs.Held.{Held}
use Rattle.tup_stale.specs.Cleared.{Leaves}
use Rattle.tup_stale.specs.declared.fault.StaleFault.{StaleFault}
use Rattle.tup_stale.specs.declared.fault.StaleFault.TheVariants as stale
use Rattle.tup_promise.specs.Did.{OnlyRead, ReadAndRemoved}
use Rattle.tup_promise.specs.Stopped.{stop_of_stale}
use Rattle.tup_promise.specs.Unopened.{IsEmptyLog}
use Rattle.tup_promise.specs.declared.log.Log.{Log}
use Rattle.tup_promise.specs.declared.stop.Stop.{Stop}
use Rattle.tup_promise.specs.declared.stop.Stop.TheVariants.{NoStore, BadStore, Sources, UserFile, Bad, Run, Full, Outside}
use Rattle.tup_phases.specs.Spared.{LeavesTree}
use Rattle.tup_phases.specs.Prepared.{LogsBefore, StopsClearing, StopsSurvey}

-- nothing was told yet
pub empty_logs : (log : Log) (by : Stop) → IsEmptyLog log → LogsBefore log by
empty_logs log NoStore empty = empty
empty_logs log (BadStore offset) empty = empty
empty_logs log (Sources fault) empty = empty
empty_logs log (UserFile path written found) empty = empty.removed
empty_logs log (Bad name verdict) empty = tt
empty_logs log Run empty = tt
empty_logs log Full empty = tt
empty_logs log (Outside failed) empty = tt

-- folders were read, and nothing was removed
pub cleared_logs : (log : Log) (by : Stop) → log.removed ≡ [] → StopsClearing by → LogsBefore log by
cleared_logs log NoStore none stops = absurd stops
cleared_logs log (BadStore offset) none stops = absurd stops
cleared_logs log (Sources fault) none stops = absurd stops
cleared_logs log (UserFile path written found) none stops = none
cleared_logs log (Bad name verdict) none stops = tt
cleared_logs log Run none stops = tt
cleared_logs log Full none stops = tt
cleared_logs log (Outside failed) none stops = tt

-- the removal of files is stopped by what it meets
pub stale_clears : (fault : StaleFault) → StopsClearing (stop_of_stale fault)
stale_clears (stale.UserFile path written found) = tt
stale_clears stale.Site = tt
stale_clears (stale.TooLarge bytes) = tt
stale_clears stale.Full = tt
stale_clears stale.Memory = tt

-- no Tupfile was told of yet, and no file
pub survey_did : (w : World) (log : Log) (by : Stop) → IsEmptyLog log → StopsSurvey by → ReadAndRemoved w log (Some by)
survey_did w log NoStore empty stops = (empty.read, empty.removed)
survey_did w log (BadStore offset) empty stops = (empty.read, empty.removed)
survey_did w log (Sources fault) empty stops = (empty.read, empty.removed)
survey_did w log (UserFile path written found) empty stops = absurd stops
survey_did w log (Bad name verdict) empty stops = absurd stops
survey_did w log Run empty stops = absurd stops
survey_did w log Full empty stops = inl (empty.read, empty.removed)
survey_did w log (Outside failed) empty stops = inl (empty.read, empty.removed)

-- Tupfiles were, and no file
pub clearing_did : (w : World) (log : Log) (by : Stop) → OnlyRead w log → StopsClearing by → ReadAndRemoved w log (Some by)
clearing_did w log NoStore read stops = absurd stops
clearing_did w log (BadStore offset) read stops = absurd stops
clearing_did w log (Sources fault) read stops = absurd stops
clearing_did w log (UserFile path written found) read stops = read
clearing_did w log (Bad name verdict) read stops = absurd stops
clearing_did w log Run read stops = absurd stops
clearing_did w log Full read stops = inr (inl read)
clearing_did w log (Outside failed) read stops = inr (inl read)

-- no file was touched
pub same_tree : (old new : World) (by : Stop) → TreeStays old new → LeavesTree old new by
same_tree old new NoStore same = same
same_tree old new (BadStore offset) same = same
same_tree old new (Sources fault) same = same
same_tree old new (UserFile path written found) same = same
same_tree old new (Bad name verdict) same = tt
same_tree old new Run same = tt
same_tree old new Full same = tt
same_tree old new (Outside failed) same = tt

-- nor before this
pub tree_on : (first old new : World) (by : Stop) → TreeStays first old → LeavesTree old new by → LeavesTree first new by
tree_on first old new NoStore before same = same ∙ before
tree_on first old new (BadStore offset) before same = same ∙ before
tree_on first old new (Sources fault) before same = same ∙ before
tree_on first old new (UserFile path written found) before same = same ∙ before
tree_on first old new (Bad name verdict) before same = tt
tree_on first old new Run before same = tt
tree_on first old new Full before same = tt
tree_on first old new (Outside failed) before same = tt

-- where one of the user's stands in the way, none is removed
pub stale_spares : (tells : Bool) (paths files : List Names) (old new : Held) (v w : World) (fault : StaleFault) → IsTrue tells → Leaves tells paths files old new v w {T = List Names} (Err fault) → LeavesTree v w (stop_of_stale fault)
stale_spares tells paths files old new v w (stale.UserFile path written found) telling leaves = ap (λ (world : World). world.tree) (leaves.1 telling)
stale_spares tells paths files old new v w stale.Site telling leaves = tt
stale_spares tells paths files old new v w (stale.TooLarge bytes) telling leaves = tt
stale_spares tells paths files old new v w stale.Full telling leaves = tt
stale_spares tells paths files old new v w stale.Memory telling leaves = tt
