-- What the program promises of one call, each promise a word. What it says of an update it says of what the status tells that
-- the update came to.
use Rattle.std.specs.Prelude.{◌≡◌, ◌⊎◌, ◌<◌, ◌≤◌, ⊤, ℕ, ◌-◌, ◌^◌, List, [], length, map, slice_get, Option, None, Some, IfSome, OnOk, Result, Ok, Err, Bool}
use Rattle.std.specs.FinMap as finite
use Rattle.tup_path.specs.Count.{Rose}
use Rattle.tup_path.specs.Name.{Names, Content}
use Rattle.tup_site.specs.Cause.{most_bytes}
use Rattle.tup_site.specs.Crash.{PinsStore}
use Rattle.tup_site.specs.World.{World, TreeStays}
use Rattle.tup_site.specs.declared.fault.SiteFailed.TheVariants.{Memory as NoMemory}
use Rattle.tup_rule.specs.declared.rule.RuleName.{RuleName}
use Rattle.tup_graph.specs.declared.fault.GraphFault.{GraphFault}
use Rattle.tup_ledger.specs.Begin.{BeginStep}
use Rattle.tup_ledger.specs.declared.beginning.Begun.{Begun}
use Rattle.tup_compare.specs.Holding.{Holding, HoldsOn, Shows}
use Rattle.tup_compare.specs.Sources.{IsRefused}
use Rattle.tup_compare.specs.declared.compare.Compared.{Compared}
use Rattle.tup_promise.specs.declared.fault.SourcesFault.{SourcesFault}
use Rattle.tup_phases.specs.Kept.{BlamesSources}
use Rattle.tup_phases.specs.Logged.{IsLogged}
use Rattle.tup_phases.specs.Prepared.{StopsSurvey}
use Rattle.tup_phases.specs.Room.{FillsStore}
use Rattle.tup_phases.specs.Spared.{LeavesTree}
use Rattle.tup_promise.specs.Cause.{OneRose}
use Rattle.tup_promise.specs.Needed.{FlagsWhatWasDue}
use Rattle.tup_promise.specs.Unopened.{Unopened}
use Rattle.tup_promise.specs.declared.log.Log.{Log}
use Rattle.tup_promise.specs.declared.stop.Stop.{Stop}
use Rattle.tup_promise.specs.declared.stop.Stop.TheVariants.{Outside}
use Rattle.tup_top.specs.Status.{IsLimit, IfCame, IfCompared, IfBegan}
use Rattle.tup_top.specs.Order.{Wanted, IsVerify, IsInit, used_of}
use Rattle.tup_top.specs.declared.order.Order.TheVariants.{Init, Upd, Todo, Verify, Demo}
use Rattle.tup_top.specs.declared.status.Status.{Status}
use Rattle.tup_top.specs.declared.status.Status.TheVariants.{Done, Command, IllegalRead, IllegalWrite, Unwritten, TooManyReads, Usage, AlreadyInit, BadStore, SiteFault, RunFault, SinkFault, TellFault, Limit, Memory, Differs}

-- a promise of an update, of what the update came to
abbrev pub ForUpdate : Wanted → Status → (Option Stop → Type 0) → Type 0
ForUpdate (Ok (Upd program keep_going quiet verbose explain jobs log)) status promise = IfCame status promise
ForUpdate (Ok Init) status promise = ⊤
ForUpdate (Ok Todo) status promise = ⊤
ForUpdate (Ok Verify) status promise = ⊤
ForUpdate (Ok Demo) status promise = ⊤
ForUpdate (Err place) status promise = ⊤

-- a promise of what finding out what an update would do came to
abbrev pub ForTodo : Wanted → Status → (Option Stop → Type 0) → Type 0
ForTodo (Ok (Upd program keep_going quiet verbose explain jobs log)) status promise = ⊤
ForTodo (Ok Init) status promise = ⊤
ForTodo (Ok Todo) status promise = IfCame status promise
ForTodo (Ok Verify) status promise = ⊤
ForTodo (Ok Demo) status promise = ⊤
ForTodo (Err place) status promise = ⊤

-- a promise of a comparison, of what it came to
abbrev pub ForVerify : Wanted → Status → (Result Compared Stop → Type 0) → Type 0
ForVerify (Ok (Upd program keep_going quiet verbose explain jobs log)) status promise = ⊤
ForVerify (Ok Init) status promise = ⊤
ForVerify (Ok Todo) status promise = ⊤
ForVerify (Ok Verify) status promise = IfCompared status promise
ForVerify (Ok Demo) status promise = ⊤
ForVerify (Err place) status promise = ⊤

-- a promise of a beginning, of how the project began
abbrev pub ForInit : Wanted → Status → (Result Begun GraphFault → Type 0) → Type 0
ForInit (Ok (Upd program keep_going quiet verbose explain jobs log)) status promise = ⊤
ForInit (Ok Init) status promise = IfBegan status promise
ForInit (Ok Todo) status promise = ⊤
ForInit (Ok Verify) status promise = ⊤
ForInit (Ok Demo) status promise = ⊤
ForInit (Err place) status promise = ⊤

-- a store that was made, or stood there, is left by a crash from now on
abbrev pub Lasts : (World → Type 0) → World → Result Begun GraphFault → Type 0
Lasts left now begun = OnOk begun (PinsStore left now)

-- Only an update does more than this: a beginning leaves the world as it was, or with a store of the same entries, or makes one
-- where there was none; finding out what an update would do leaves all files; a comparison leaves a world that holds the same; and
-- any other call the world as it was. None touches a file.
abbrev pub NothingDone : Wanted → World → World → Type 0
NothingDone (Ok (Upd program keep_going quiet verbose explain jobs log)) old new = ⊤
NothingDone (Ok Init) old new = (new ≡ old) ⊎ BeginStep old old new
NothingDone (Ok Todo) old new = TreeStays old new
NothingDone (Ok Verify) old new = HoldsOn old new
NothingDone (Ok Demo) old new = new ≡ old
NothingDone (Err place) old new = new ≡ old

-- and so of all that it adds to what a crash may leave
abbrev pub QuietStep : Wanted → World → World → World → Type 0
QuietStep (Ok Init) was v w = BeginStep was v w
QuietStep (Ok Verify) was v w = HoldsOn v w
QuietStep other was v w = ⊥

-- How an update went on from its store, which began these rules and stopped so. Where there was no memory, for its lines too, it
-- had come to any of its ends.
abbrev pub OpensStore : World → World → List RuleName → Option Stop → Type 0
OpensStore old new ran (Some (Outside NoMemory)) = (stopped : Option Stop) × (log : Log) × (log.ran ≡ ran) × Unopened old new log stopped
OpensStore old new ran stopped = (log : Log) × (log.ran ≡ ran) × Unopened old new log stopped

-- What came of finding out what an update would do, which was stopped so, or by nothing: how it went on from the store, and that
-- nothing stops it that stops only a removal or a run. Over a kept site a blame of the sources is true, a store that is
-- said to be full is, and no more is to be run then than was due.
pub record FindsOut (kept : Type 0) (old new : World) (stopped : Option Stop) : Type 0 where
  pub opens : OpensStore old new [] stopped
  pub stops : IfSome stopped StopsSurvey
  pub blamed : kept → IfSome stopped (BlamesSources old)
  pub full : kept → IfSome stopped (FillsStore new)
  pub flagged : kept → FlagsWhatWasDue old new

-- a promise of an update that nothing stopped
abbrev pub OnceDone : Type 0 → Option Stop → Type 0
OnceDone promise stopped = stopped ≡ None → promise

-- the files stay where an update stops before any is removed or made
abbrev pub Spares : World → World → Option Stop → Type 0
Spares old new stopped = IfSome stopped (LeavesTree old new)

-- What an update by so many runners did that began these rules and stopped so, by its log, where it was to go on after a bad verdict
-- or not. Where there was no memory, for its lines too, it had come to any of its ends.
abbrev pub Logs : ℕ → Bool → List RuleName → Option Stop → Type 0
Logs jobs keep_going ran (Some (Outside NoMemory)) = (stopped : Option Stop) × (log : Log) × (log.ran ≡ ran) × IsLogged jobs keep_going log stopped
Logs jobs keep_going ran stopped = (log : Log) × (log.ran ≡ ran) × IsLogged jobs keep_going log stopped

-- the failures that a site, the runners of a crew and a sink have counted
pub record Counts : Type 0 where
  pub site : ℕ
  pub runners : List ℕ
  pub sink : ℕ

-- what these count
abbrev pub counts : {S R K : Type 0} → (S → ℕ) → (R → ℕ) → (K → ℕ) → S → List R → K → Counts
counts of_site of_runner of_sink site crew sink = record { site = of_site site; runners = map of_runner crew; sink = of_sink sink }

-- what a site and a sink count, beside what some runners do
abbrev pub beside : List ℕ → ℕ → ℕ → Counts
beside runners site sink = record { site = site; runners = runners; sink = sink }

-- neither the site nor a runner failed
abbrev pub AreSteady : Counts → Counts → Type 0
AreSteady before now = (now.site ≡ before.site) × (now.runners ≡ before.runners)

-- the site failed, and no runner did
abbrev pub OnlySiteFailed : Counts → Counts → Type 0
OnlySiteFailed before now = Rose before.site now.site × (now.runners ≡ before.runners)

-- a runner failed, and the site didn't
abbrev pub OnlyRunnerFailed : Counts → Counts → Type 0
OnlyRunnerFailed before now = (now.site ≡ before.site) × OneRose before.runners now.runners

-- of the site and the runners one failed at most
abbrev pub OneFailedAtMost : Counts → Counts → Type 0
OneFailedAtMost before now = AreSteady before now ⊎ OnlySiteFailed before now ⊎ OnlyRunnerFailed before now

-- the causes that every site, runner and sink shows: no count rises unseen, and a count that is blamed rose. Want of memory
-- while lines are printed is answered in the place of all else, of a failure too.
abbrev pub HasCountedCause : Counts → Counts → Status → Type 0
HasCountedCause before now (Done read ran removed) = AreSteady before now × (now.sink ≡ before.sink)
HasCountedCause before now SinkFault = AreSteady before now × Rose before.sink now.sink
HasCountedCause before now SiteFault = OnlySiteFailed before now
HasCountedCause before now RunFault = OnlyRunnerFailed before now
HasCountedCause before now (Limit what number) = AreSteady before now × IsLimit what number
HasCountedCause before now (Usage place) = ⊥
HasCountedCause before now AlreadyInit = ⊥
HasCountedCause before now (Differs path) = ⊥
HasCountedCause before now TellFault = ⊥
HasCountedCause before now Memory = OneFailedAtMost before now
HasCountedCause before now other = AreSteady before now

-- What the counts show whatever the number of runners. Once something has stopped an update, a command that still runs may find
-- that the site or its runner fails: so a count that is blamed rose, and none rose where all was done, where the store can't be read,
-- where the Tupfiles come to no rules, or where a file of the user's stands in the way. Of a limit that is left open.
abbrev pub HasSharedCause : Counts → Counts → Status → Type 0
HasSharedCause before now (Done read ran removed) = AreSteady before now × (now.sink ≡ before.sink)
HasSharedCause before now SinkFault = AreSteady before now × Rose before.sink now.sink
HasSharedCause before now SiteFault = Rose before.site now.site
HasSharedCause before now RunFault = OneRose before.runners now.runners
HasSharedCause before now (Limit what number) = IsLimit what number
HasSharedCause before now (Command rule status) = ⊤
HasSharedCause before now (IllegalRead rule text) = ⊤
HasSharedCause before now (IllegalWrite rule text) = ⊤
HasSharedCause before now (Unwritten rule path) = ⊤
HasSharedCause before now (TooManyReads rule) = ⊤
HasSharedCause before now (Usage place) = ⊥
HasSharedCause before now AlreadyInit = ⊥
HasSharedCause before now (Differs path) = ⊥
HasSharedCause before now Memory = ⊤
HasSharedCause before now other = AreSteady before now

-- the causes of an update by one runner, or of finding out what it would do, of which a reporter may have failed; nothing else has
-- then
abbrev pub HasAloneCause : Counts → Counts → Status → Type 0
HasAloneCause before now TellFault = AreSteady before now
HasAloneCause before now other = HasCountedCause before now other

-- the causes of an update by so many runners: for one, no count rises unseen
pub record HasCrewCause (jobs : ℕ) (before now : Counts) (status : Status) : Type 0 where
  pub any : HasSharedCause before now status
  pub alone : jobs ≡ 1 → HasAloneCause before now status

-- the same of a comparison, which may tell a difference
abbrev pub HasComparedCause : Counts → Counts → Status → Type 0
HasComparedCause before now (Differs path) = AreSteady before now
HasComparedCause before now other = HasCountedCause before now other

-- The same of a demo, whose site and runner are its own and never fail, whose project has begun, and whose one rule is good. So it is
-- done, unless the sink failed, or a limit or want of memory stopped it.
abbrev pub HasDemoCause : ℕ → ℕ → Status → Type 0
HasDemoCause before now (Done read ran removed) = now ≡ before
HasDemoCause before now SinkFault = Rose before now
HasDemoCause before now (Limit what number) = IsLimit what number
HasDemoCause before now Memory = ⊤
HasDemoCause before now other = ⊥

-- the same of a beginning, by what its site and its sink count
abbrev pub HasBegunCause : ℕ → ℕ → ℕ → ℕ → Status → Type 0
HasBegunCause before now heard hears (Done read ran removed) = (now ≡ before) × (hears ≡ heard)
HasBegunCause before now heard hears SinkFault = (now ≡ before) × Rose heard hears
HasBegunCause before now heard hears AlreadyInit = now ≡ before
HasBegunCause before now heard hears (BadStore offset) = now ≡ before
HasBegunCause before now heard hears SiteFault = Rose before now
HasBegunCause before now heard hears Memory = (now ≡ before) ⊎ Rose before now
HasBegunCause before now heard hears other = ⊥

-- where a word can't stand, only its place is answered
abbrev pub IsRefusal : ℕ → Status → Type 0
IsRefusal wrong (Usage place) = place ≡ wrong
IsRefusal wrong Memory = ⊤
IsRefusal wrong other = ⊥

-- the causes of every order
abbrev pub HasPlainCause : Wanted → Counts → Counts → Status → Type 0
HasPlainCause (Ok (Upd program keep_going quiet verbose explain jobs log)) before now status = HasCrewCause (used_of jobs (length before.runners)) before now status
HasPlainCause (Ok Init) before now status = (now.runners ≡ before.runners) × HasBegunCause before.site now.site before.sink now.sink status
HasPlainCause (Ok Todo) before now status = HasAloneCause before now status
HasPlainCause (Ok Verify) before now status = HasComparedCause before now status
HasPlainCause (Ok Demo) before now status = AreSteady before now × HasDemoCause before.sink now.sink status
HasPlainCause (Err place) before now status = AreSteady before now × IsRefusal place status

-- no count of failures rose, and none stands at its end
pub record NothingFailed (before now : Counts) : Type 0 where
  pub site : now.site ≡ before.site
  pub site_counts : now.site < 2 ^ 64 - 1
  pub runners : now.runners ≡ before.runners
  pub runners_count : (at count : ℕ) → slice_get now.runners at ≡ Some count → count < 2 ^ 64 - 1
  pub sink : now.sink ≡ before.sink
  pub sink_counts : now.sink < 2 ^ 64 - 1

-- an answer that is free, or says that all was done
abbrev pub IsDoneOrMemory : Status → Type 0
IsDoneOrMemory (Done read ran removed) = ⊤
IsDoneOrMemory Memory = ⊤
IsDoneOrMemory other = ⊥

-- a project begins where there is no store and nothing failed, but for want of memory
abbrev pub Initializes : Wanted → World → Counts → Counts → Status → Type 0
Initializes wanted old before now status = IsInit wanted → old.store ≡ [] → NothingFailed before now → IsDoneOrMemory status

-- nothing stands in the way of a comparison
pub record CanBeCompared (w : World) : Type 0 where
  pub held : Holding
  pub store_reads : Shows w held
  pub sources_read : (fault : SourcesFault) → IsRefused w fault → ⊥
  pub small : (path : Names) (content : Content) → finite.get w.tree path ≡ Some content → length content ≤ most_bytes

-- an answer that is free, or says how the files compare with a clean build, or which rule of it isn't Good
abbrev pub IsComparisonOrMemory : Status → Type 0
IsComparisonOrMemory (Done read ran removed) = ⊤
IsComparisonOrMemory (Differs path) = ⊤
IsComparisonOrMemory (Command rule status) = ⊤
IsComparisonOrMemory (IllegalRead rule text) = ⊤
IsComparisonOrMemory (IllegalWrite rule text) = ⊤
IsComparisonOrMemory (Unwritten rule path) = ⊤
IsComparisonOrMemory (TooManyReads rule) = ⊤
IsComparisonOrMemory Memory = ⊤
IsComparisonOrMemory other = ⊥

-- a comparison that nothing stands in the way of is made, but for want of memory
abbrev pub Compares : Wanted → World → Counts → Counts → Status → Type 0
Compares wanted w before now status = IsVerify wanted → CanBeCompared w → NothingFailed before now → IsComparisonOrMemory status
