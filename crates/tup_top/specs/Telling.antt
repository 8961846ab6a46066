-- What reporters are told of an update, or of what it would do, and how these end then (own).
use Rattle.std.specs.Prelude.{◌≡◌, ◌==◌, ℕ, Bool, false, List, [], ◌∷◌, ◌++◌, IfOk, IsTrue, drop, filter, length, map, take, Option, Result}
use Rattle.tup_site.specs.World.{World}
use Rattle.tup_rule.specs.declared.rule.RuleName.{RuleName}
use Rattle.tup_tell.specs.Parted.{AreCutOff, AreTold}
use Rattle.tup_tell.specs.Told.{is_ended, is_started}
use Rattle.tup_tell.specs.declared.event.Event.{Event}
use Rattle.tup_tell.specs.declared.event.Event.TheVariants.{Read, Removed, Started, Ended}
use Rattle.tup_phases.specs.Logged.{IsLogged}
use Rattle.tup_promise.specs.Unopened.{Unopened}
use Rattle.tup_promise.specs.declared.log.EndedRule.{EndedRule}
use Rattle.tup_promise.specs.declared.log.Log.{Log}
use Rattle.tup_promise.specs.declared.log.Step.{Step}
use Rattle.tup_promise.specs.declared.log.Step.TheVariants.{Begin, End}
use Rattle.tup_promise.specs.declared.stop.Stop.{Stop}
use Rattle.tup_todo.specs.Lists.{ListsWhatIsDue}
use Rattle.tup_todo.specs.declared.todo.Todo.{Todo}
use Rattle.tup_top.specs.Printed.{Ends, Prints}
use Rattle.tup_top.specs.Status.{log_of_todo, status_of, status_of_todo, after_telling}
use Rattle.tup_top.specs.declared.status.Status.{Status}

-- what is told of a rule whose command came to a verdict
abbrev pub end_event : EndedRule → Event
end_event one = Ended one.rule one.verdict

-- the events of these steps: each begin is that of the next rule that was begun, and each end that of the next one that ended, where
-- there is one
abbrev pub step_events : List Step → List RuleName → List EndedRule → List Event
step_events [] begun ended = []
step_events (Begin ∷ steps) begun ended = map Started (take 1 begun) ++ step_events steps (drop 1 begun) ended
step_events (End ∷ steps) begun ended = map end_event (take 1 ended) ++ step_events steps begun (drop 1 ended)

-- The events of an update with this log: the folders that were read, the files that were removed, and then each rule that was begun
-- and each whose command came to a verdict, in the order in which this happened. A command that came to no verdict has a begin and no
-- end.
abbrev pub events_of : Log → List Event
events_of log = map Read log.read ++ (map Removed log.removed ++ step_events log.steps log.ran log.ended)

-- The events of a log tell of each rule that was begun that it started, and of each that ended how it ended, in the order of the log
pub record TellsEach (log : Log) : Type 0 where
  pub started : filter is_started (events_of log) ≡ map Started log.ran
  pub ended : filter is_ended (events_of log) ≡ map end_event log.ended

-- so do those of an update, however it ended
abbrev pub EachIsTold : Type 0
EachIsTold = (jobs : ℕ) (keep_going : Bool) (log : Log) (stopped : Option Stop) → IsLogged jobs keep_going log stopped → TellsEach log

-- What became of reporters, and of an update with this log that came to one status and ends as another. Each reporter was told
-- all events and stays, or failed and left; where there was no memory the telling ended. If the update was done, but a reporter
-- failed, it ends with this fault.
pub record Hears {T : Type 0} (told : T → List Event) (faults : T → ℕ) (old kept failed : List T) (log : Log) (came status : Status) : Type 0 where
  pub all : Bool
  pub told_all : IsTrue all → AreTold told faults (events_of log) old kept failed
  pub cut_off : all ≡ false → AreCutOff told faults (events_of log) old kept failed
  pub status_is : status ≡ after_telling all (length failed == 0) came

-- What is told of an order with this log that came to a status: first the reporters, of whom this is so by how the order ends then,
-- and then the sink, of these lines by how it ends.
pub record Reports (hears : Log → Status → Status → Type 0) (log : Log) (lines : Status → List ℕ) (shows : Type 0) (came : Status) (before now : ℕ) (old new : List ℕ) (answer : Status) : Type 0 where
  pub status : Status
  pub heard : hears log came status
  pub ends : Ends before now status answer
  pub prints : shows → Prints status (lines status) before now old new answer

-- What reporters were told of an update by so many runners that began these rules, was to go on after a bad verdict or not, and led from
-- one world to another: it has a log, of which this holds by why it stopped, and this is so by the status that it came to and the one that
-- was printed.
pub record TellsUpdate (jobs : ℕ) (site keep_going : Bool) (holds : Log → Option Stop → Type 0) (hears : Log → Status → Status → Type 0) (world left : World) (ran : List RuleName) (before now : ℕ) (answer : Status) : Type 0 where
  pub log : Log
  pub stopped : Option Stop
  pub begun : log.ran ≡ ran
  pub logged : IsLogged jobs keep_going log stopped
  pub so : holds log stopped
  pub unopened : IsTrue site → Unopened world left log stopped
  pub status : Status
  pub heard : hears log (status_of log stopped) status
  pub ends : Ends before now status answer

-- What reporters were told of finding out what an update would do, which led from one world to another: the folders that were read.
-- Over a kept site these are just those whose Tupfile had to be read, and it found what is due.
pub record TellsTodo (kept : Type 0) (hears : Log → Status → Status → Type 0) (world left : World) (before now : ℕ) (answer : Status) : Type 0 where
  pub todo : Result Todo Stop
  pub lists : kept → IfOk todo (ListsWhatIsDue world left)
  pub status : Status
  pub heard : hears (log_of_todo todo) (status_of_todo todo) status
  pub ends : Ends before now status answer
