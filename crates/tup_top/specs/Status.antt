-- How an order ended: the exit numbers (own), what stops an update as a status, and what a status says of an update.
use Rattle.std.specs.Prelude.{◌≡◌, ◌⊎◌, ℕ, Bool, true, false, ◌-◌, ◌^◌, ◌<◌, nat_lt, if◌then◌else◌, [], length, min, Option, None, Some, Result, Ok, Err}
use Rattle.tup_stamp.specs.declared.Stamp.{Stamp}
use Rattle.tup_site.specs.Cause.{most_bytes}
use Rattle.tup_site.specs.Limits.{greatest}
use Rattle.tup_site.specs.declared.fault.SiteFailed.{SiteFailed}
use Rattle.tup_site.specs.declared.fault.SiteFailed.TheVariants.{Fault, TooLarge, Memory as NoMemory}
use Rattle.tup_rule.specs.declared.rule.RuleName.{RuleName}
use Rattle.tup_access.specs.declared.verdict.Verdict.{Verdict}
use Rattle.tup_access.specs.declared.verdict.Verdict.TheVariants.{Good, Failed, IllegalRead as ReadsIllegally, IllegalWrite as WritesIllegally, Unwritten as LeavesUnwritten, TooManyReads as ReadsTooOften}
use Rattle.tup_graph.specs.declared.fault.GraphFault.{GraphFault}
use Rattle.tup_graph.specs.declared.fault.GraphFault.TheVariants as graph
use Rattle.tup_ledger.specs.declared.beginning.Begun.{Begun}
use Rattle.tup_ledger.specs.declared.beginning.Begun.TheVariants.{Made, WasThere}
use Rattle.tup_compare.specs.declared.compare.Compared.{Compared}
use Rattle.tup_compare.specs.declared.compare.Compared.TheVariants as compared
use Rattle.tup_promise.specs.declared.fault.SourcesFault.{SourcesFault}
use Rattle.tup_promise.specs.declared.fault.SourcesFault.TheVariants as sources
use Rattle.tup_todo.specs.declared.todo.Todo.{Todo}
use Rattle.tup_promise.specs.declared.log.Log.{Log}
use Rattle.tup_promise.specs.declared.stop.Stop.{Stop}
use Rattle.tup_promise.specs.declared.stop.Stop.TheVariants.{NoStore, BadStore as StoreDamaged, Sources, UserFile as IsUsers, Bad, Run, Full, Outside}
use Rattle.tup_top.specs.declared.status.Status.{Status}
use Rattle.tup_top.specs.declared.status.Status.TheVariants.{Done, Command, IllegalRead, IllegalWrite, Unwritten, TooManyReads, Usage, NotInit, AlreadyInit, BadStore, Parse, CircularDirs, CircularCommands, NoSuchGroup, UserFile, SiteFault, RunFault, SinkFault, TellFault, Limit, Memory, Differs}
use Rattle.tup_top.specs.declared.status.What.{What}
use Rattle.tup_top.specs.declared.status.What.TheVariants.{Files, FileSize, Commands, Links, StoreSize}

-- the exit number of the program
abbrev pub exit_of : Status → ℕ
exit_of (Done read ran removed) = 0
exit_of (Command rule status) = 1
exit_of (IllegalRead rule text) = 1
exit_of (IllegalWrite rule text) = 1
exit_of (Unwritten rule path) = 1
exit_of (TooManyReads rule) = 1
exit_of (Usage place) = 2
exit_of NotInit = 3
exit_of AlreadyInit = 3
exit_of (BadStore offset) = 4
exit_of (Parse fault) = 5
exit_of (CircularDirs cycle) = 5
exit_of (CircularCommands cycle) = 5
exit_of (NoSuchGroup group) = 5
exit_of (UserFile path) = 6
exit_of SiteFault = 7
exit_of RunFault = 8
exit_of SinkFault = 9
exit_of TellFault = 10
exit_of (Limit what number) = 11
exit_of Memory = 12
exit_of (Differs path) = 13

-- a count as it is told
abbrev pub capped : ℕ → ℕ
capped count = min count (2 ^ 32 - 1)

-- how many of these there may be
abbrev pub most : What → ℕ
most Files = 65536
most FileSize = most_bytes
most Commands = 65536
most Links = 4194304
most StoreSize = 268435456

-- how many of these there may be on a real disk: more files, and larger ones
abbrev pub most_on_disk : What → ℕ
most_on_disk Files = greatest.files
most_on_disk FileSize = greatest.bytes
most_on_disk other = most other

-- of two limits the greater one where so many pass it, else the other
abbrev pub passed_limit : ℕ → ℕ → ℕ → ℕ
passed_limit count less greater = if nat_lt greater count then greater else less

-- the limit that is told where there are so many: the greatest that they pass
abbrev pub told_limit : What → ℕ → ℕ
told_limit what count = passed_limit count (most what) (most_on_disk what)

-- a number that is told as a limit
abbrev pub IsLimit : What → ℕ → Type 0
IsLimit what number = (number ≡ most what) ⊎ (number ≡ most_on_disk what)

-- the status of a rule that isn't Good
abbrev pub status_of_bad : RuleName → Verdict → Status
status_of_bad rule Good = Memory
status_of_bad rule (Failed status) = Command rule status
status_of_bad rule (ReadsIllegally text) = IllegalRead rule text
status_of_bad rule (WritesIllegally text) = IllegalWrite rule text
status_of_bad rule (LeavesUnwritten path) = Unwritten rule path
status_of_bad rule ReadsTooOften = TooManyReads rule

-- the status of sources that ask for no rules
abbrev pub status_of_sources : SourcesFault → Status
status_of_sources (sources.TooManyFiles count) = Limit Files (told_limit Files count)
status_of_sources (sources.Parse fault) = Parse fault
status_of_sources (sources.CircularDirs cycle) = CircularDirs cycle
status_of_sources (sources.TooManyCommands count) = Limit Commands (told_limit Commands count)
status_of_sources (sources.NoSuchGroup group) = NoSuchGroup group
status_of_sources (sources.TooManyLinks count) = Limit Links (told_limit Links count)
status_of_sources (sources.CircularCommands cycle) = CircularCommands cycle

-- the status of an order that the outside stops
abbrev pub status_of_outside : SiteFailed → Status
status_of_outside Fault = SiteFault
status_of_outside (TooLarge bytes) = Limit FileSize (told_limit FileSize bytes)
status_of_outside NoMemory = Memory

-- the status of an order that was stopped
abbrev pub status_of_stop : Stop → Status
status_of_stop NoStore = NotInit
status_of_stop (StoreDamaged offset) = BadStore offset
status_of_stop (Sources fault) = status_of_sources fault
status_of_stop (IsUsers path written found) = UserFile path
status_of_stop (Bad rule verdict) = status_of_bad rule verdict
status_of_stop Run = RunFault
status_of_stop Full = Limit StoreSize (most StoreSize)
status_of_stop (Outside failed) = status_of_outside failed

-- the status of an update with this log that stopped for this reason, or came to its end
abbrev pub status_of : Log → Option Stop → Status
status_of log None = Done (capped (length log.read)) (capped (length log.ended)) (capped (length log.removed))
status_of log (Some stop) = status_of_stop stop

-- the status of what an update would do; nothing of it was done but to read Tupfiles
abbrev pub status_of_todo : Result Todo Stop → Status
status_of_todo (Ok todo) = Done (capped (length todo.read)) 0 0
status_of_todo (Err stop) = status_of_stop stop

-- the log of finding out what an update would do: the folders that it read; where it was stopped, none
abbrev pub log_of_todo : Result Todo Stop → Log
log_of_todo (Ok todo) = record { read = todo.read; removed = []; ran = []; ended = []; steps = [] }
log_of_todo (Err stop) = record { read = []; removed = []; ran = []; ended = []; steps = [] }

-- the status of a comparison of the files with a clean build
abbrev pub status_of_compared : Result Compared Stop → Status
status_of_compared (Ok compared.Same) = Done 0 0 0
status_of_compared (Ok (compared.Differs path)) = Differs path
status_of_compared (Err stop) = status_of_stop stop

-- so many are too many, and this number is told as their limit
pub record PassesAt (what : What) (number count : ℕ) : Type 0 where
  pub many : most what < count
  pub told : number ≡ told_limit what count

-- A promise of an update that stopped because so many of these are too many. Its status tells the limit, and not the count.
abbrev pub Passed : What → ℕ → (ℕ → Stop) → (Option Stop → Type 0) → Type 0
Passed what number stop promise = (count : ℕ) × PassesAt what number count × promise (Some (stop count))

-- A promise of what an update came to that is answered so: its end, or the reason for which it stopped. A file of the user's is
-- told by its path alone. A word that can't stand is no answer of an update, nor is a difference, nor that a project was begun
-- before.
abbrev pub IfCame : Status → (Option Stop → Type 0) → Type 0
IfCame (Done read ran removed) promise = promise None
IfCame SinkFault promise = promise None
IfCame TellFault promise = promise None
IfCame (Command rule status) promise = promise (Some (Bad rule (Failed status)))
IfCame (IllegalRead rule text) promise = promise (Some (Bad rule (ReadsIllegally text)))
IfCame (IllegalWrite rule text) promise = promise (Some (Bad rule (WritesIllegally text)))
IfCame (Unwritten rule path) promise = promise (Some (Bad rule (LeavesUnwritten path)))
IfCame (TooManyReads rule) promise = promise (Some (Bad rule ReadsTooOften))
IfCame NotInit promise = promise (Some NoStore)
IfCame (BadStore offset) promise = promise (Some (StoreDamaged offset))
IfCame (Parse fault) promise = promise (Some (Sources (sources.Parse fault)))
IfCame (CircularDirs cycle) promise = promise (Some (Sources (sources.CircularDirs cycle)))
IfCame (CircularCommands cycle) promise = promise (Some (Sources (sources.CircularCommands cycle)))
IfCame (NoSuchGroup group) promise = promise (Some (Sources (sources.NoSuchGroup group)))
IfCame (UserFile path) promise = (written : Option Stamp) × (found : Stamp) × promise (Some (IsUsers path written found))
IfCame SiteFault promise = promise (Some (Outside Fault))
IfCame RunFault promise = promise (Some Run)
IfCame (Limit Files number) promise = Passed Files number (λ count. Sources (sources.TooManyFiles count)) promise
IfCame (Limit FileSize number) promise = Passed FileSize number (λ count. Outside (TooLarge count)) promise
IfCame (Limit Commands number) promise = Passed Commands number (λ count. Sources (sources.TooManyCommands count)) promise
IfCame (Limit Links number) promise = Passed Links number (λ count. Sources (sources.TooManyLinks count)) promise
IfCame (Limit StoreSize number) promise = promise (Some Full)
IfCame Memory promise = promise (Some (Outside NoMemory))
IfCame (Usage place) promise = ⊥
IfCame AlreadyInit promise = ⊥
IfCame (Differs path) promise = ⊥

-- what came of an update as what came of a comparison
abbrev pub of_stop : Option Stop → Result Compared Stop
of_stop None = Ok compared.Same
of_stop (Some stop) = Err stop

-- a promise of what a comparison came to, which may tell a difference
abbrev pub IfCompared : Status → (Result Compared Stop → Type 0) → Type 0
IfCompared (Differs path) promise = promise (Ok (compared.Differs path))
IfCompared other promise = IfCame other (λ came. promise (of_stop came))

-- the status of a project that began so; a beginning answers no other refusal
abbrev pub status_of_begun : Result Begun GraphFault → Status
status_of_begun (Ok Made) = Done 0 0 0
status_of_begun (Ok WasThere) = AlreadyInit
status_of_begun (Err (graph.BadStore offset)) = BadStore offset
status_of_begun (Err graph.Site) = SiteFault
status_of_begun (Err graph.Memory) = Memory
status_of_begun (Err other) = Memory

-- a promise of how a project began that is answered so; no other status is answered
abbrev pub IfBegan : Status → (Result Begun GraphFault → Type 0) → Type 0
IfBegan (Done read ran removed) promise = promise (Ok Made)
IfBegan SinkFault promise = promise (Ok Made)
IfBegan AlreadyInit promise = promise (Ok WasThere)
IfBegan (BadStore offset) promise = promise (Err (graph.BadStore offset))
IfBegan SiteFault promise = promise (Err graph.Site)
IfBegan Memory promise = promise (Err graph.Memory)
IfBegan other promise = ⊥

-- the status of an order whose lines couldn't be written: the sink's failure is answered where all else went well
abbrev pub after_sink_fault : Status → Status
after_sink_fault (Done read ran removed) = SinkFault
after_sink_fault other = other

-- the status of an update of which a reporter wasn't told all: its failure is answered where all else went well
abbrev pub after_tell_fault : Status → Status
after_tell_fault (Done read ran removed) = TellFault
after_tell_fault other = other

-- The status of an update that came to this one, once reporters were told: itself where all were told and none failed; where one
-- failed, this fault in the place of a Done. Else there was no memory.
abbrev pub after_telling : Bool → Bool → Status → Status
after_telling true true came = came
after_telling true false came = after_tell_fault came
after_telling false none_failed came = Memory
