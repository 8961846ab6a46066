-- What a run of the program leaves, by what the program promises of each run (tup_top). Own.
use Rattle.std.specs.Prelude.{◌≡◌, ◌⊎◌, ⊤, Bool, ℕ, List, [], length, Option, None, Some, IsTrue}
use Rattle.std.specs.Result.{result_err}
use Rattle.tup_site.specs.Crash.{GoesOn}
use Rattle.tup_site.specs.World.{World}
use Rattle.tup_site.specs.Memory.{world_in, store_in, known_in, first_of, changes_of, moment_of, left_since, calls_of, faults_of, fails_of, left_of}
use Rattle.tup_site.specs.contracts.memory_calls.MemSiteSite.TheImpl as memory
use Rattle.tup_site.specs.declared.memory.MemSite.{MemSite}
use Rattle.tup_rule.specs.declared.rule.RuleName.{RuleName}
use Rattle.tup_runner.specs.Next.{Next}
use Rattle.tup_table.specs.Images.{OpenStep}
use Rattle.tup_ledger.specs.Begin.{Begins}
use Rattle.tup_ledger.specs.Sources.{IsDurable}
use Rattle.tup_graph.specs.Kept.{IsKeptSite}
use Rattle.tup_law_phases.specs.Language.{tupfiles}
use Rattle.tup_promise.specs.BadEnds.{BadEnds, BlamesFirst}
use Rattle.tup_promise.specs.Blamed.{IsToBlame}
use Rattle.tup_promise.specs.Cause.{IsWithin}
use Rattle.tup_promise.specs.Did.{ReadAndRemoved}
use Rattle.tup_promise.specs.Finished.{ExactlyTheFiles}
use Rattle.tup_promise.specs.GoodEnds.{GoodEnds}
use Rattle.tup_promise.specs.Needed.{OnlyWhatIsNeeded}
use Rattle.tup_promise.specs.States.{States}
use Rattle.tup_promise.specs.Unopened.{IsReadable}
use Rattle.tup_promise.specs.Users.{HasUsersFile, IsHeldUp}
use Rattle.tup_promise.specs.declared.log.Log.{Log}
use Rattle.tup_promise.specs.declared.stop.Stop.{Stop}
use Rattle.tup_phases.specs.Logged.{IsLogged}
use Rattle.tup_compare.specs.Compared.{HasCompared}
use Rattle.tup_compare.specs.Opened.{JustOpens}
use Rattle.tup_update.specs.Full.{HasFullCause}
use Rattle.tup_top.specs.Order.{Wanted, BringsUp, IsUpdate, goes_on, used}
use Rattle.tup_top.specs.Promise.{FindsOut, ForUpdate, ForInit, ForTodo, ForVerify, Lasts, NothingDone, OnceDone, OpensStore, QuietStep, Counts, HasPlainCause, Initializes, Compares, Logs, Spares}
use Rattle.tup_top.specs.Printed.{IsDone}
use Rattle.tup_top.specs.Status.{status_of}
use Rattle.tup_top.specs.Success.{Lists, Succeeds}
use Rattle.tup_top.specs.declared.status.Status.{Status}
use Rattle.tup_top.specs.declared.status.Status.TheVariants.{Done, Memory, SinkFault, TellFault}
use Rattle.tup_history.specs.Kept.{IsKept}

-- the answer says that all was done, whoever was told or wasn't
abbrev pub SaysDone : Status → Type 0
SaysDone (Done read ran removed) = ⊤
SaysDone SinkFault = ⊤
SaysDone TellFault = ⊤
SaysDone other = ⊥

-- What a run leaves of a world, what it answers, and which rules it began. The site, the runners and the sink count their
-- failures before it and behind it. These are the promises of every call of the program that speak of its site, of its answer and of the
-- rules that it began; a history has no reporters.
pub record Keeps (tells : Bool) (next : Next) (wanted : Wanted) (old new : World) (before now : Counts) (status : Status) (ran : List RuleName) : Type 0 where
  pub opens_store : ForUpdate wanted status (OpensStore old new ran)
  pub nothing_done : NothingDone wanted old new
  pub none_begun : (IsUpdate wanted → ⊥) → ran ≡ []
  pub logged : ForUpdate wanted status (Logs (used wanted (length before.runners)) (goes_on wanted) ran)
  pub spares : ForUpdate wanted status (Spares old new)
  pub limits : ForUpdate wanted status (IsWithin old)
  pub plain_cause : HasPlainCause wanted before now status
  pub begins : ForInit wanted status (Begins old new)
  pub initializes : Initializes wanted old before now status
  pub opens : ForVerify wanted status (λ compared. JustOpens old.store new.store (result_err compared))
  pub compared : IsTrue tells → ForVerify wanted status (HasCompared next old)
  pub compares : IsTrue tells → Compares wanted old before now status

-- What a crash may leave since such a run began, and once it has ended; and what a run tells that finds out what an update would do.
pub record Leaves (wanted : Wanted) (old new : MemSite) (status : Status) : Type 0 where
  pub closed : BringsUp wanted → (IsReadable (store_in old) → ⊥) → GoesOn moment_of left_since old new OpenStep
  pub quiet : (BringsUp wanted → ⊥) → GoesOn moment_of left_since old new (QuietStep wanted (world_in old))
  pub lasts : ForInit wanted status (Lasts (left_since new (moment_of new)) (world_in new))
  pub known : (IsUpdate wanted → ⊥) → known_in new ≡ known_in old
  pub found_out : ForTodo wanted status (FindsOut ((next : Next) × IsKept next old) (world_in old) (world_in new))

-- An update of a kept world by so many runners, which left another, answered this and began these rules, has a log that is true: of the
-- rules that it began, of the bad ones among them, of the good ones, whose outputs stand and none of which is due in what is left, and of
-- the Tupfiles and files that it read and removed. It answers what it came to, or in the place of that all was done that its lines couldn't be written, or that
-- there was no memory.
pub record HasTrueLog (next : Next) (jobs : ℕ) (keep_going : Bool) (old new : World) (status : Status) (ran : List RuleName) : Type 0 where
  pub log : Log
  pub stopped : Option Stop
  pub begun : log.ran ≡ ran
  pub logged : IsLogged jobs keep_going log stopped
  pub bads : BadEnds next old log
  pub first : BlamesFirst old log stopped
  pub left : GoodEnds next old new log
  pub did : ReadAndRemoved old log stopped
  pub answers : (status ≡ status_of log stopped) ⊎ (status ≡ Memory) ⊎ ((status ≡ SinkFault) × IsDone (status_of log stopped))

-- What an update by a crew of so many leaves of a kept project, whose commands mean this: exactly the files of a clean build where it
-- is done, and a crash leaves all as it is then. Whatever it answers only what is needed was run, its log is true, a blame is true, a store
-- that is said to be full is, each owned path is in the state that it was in, or in one of this update, a file of the user's at a path that no rule
-- makes holds it up, the project is kept, and so is each world that a crash since its beginning may leave.
pub record Updates (next : Next) (many : ℕ) (wanted : Wanted) (old new : MemSite) (status : Status) (ran : List RuleName) : Type 0 where
  pub files : ForUpdate wanted status (ExactlyTheFiles next (world_in old) (world_in new))
  pub needed : ForUpdate wanted status (OnlyWhatIsNeeded next (goes_on wanted) (used wanted many) (world_in old) (world_in new) ran)
  pub tells : IsUpdate wanted → HasTrueLog next (used wanted many) (goes_on wanted) (world_in old) (world_in new) status ran
  pub blamed : ForUpdate wanted status (IsToBlame next (world_in old) (world_in new) ran)
  pub full : ForUpdate wanted status (HasFullCause memory.ghosts next old new ran)
  pub settled : ForUpdate wanted status (OnceDone (IsDurable (left_since new (moment_of new)) (world_in new)))
  pub states : BringsUp wanted → States next (world_in old) (world_in new)
  pub users : HasUsersFile (world_in old) → ForUpdate wanted status (IsHeldUp memory.ghosts old new ran)
  pub crash : BringsUp wanted → IsKeptSite next tupfiles (known_in new) (world_in old) (left_since new (moment_of old))
  pub kept : BringsUp wanted → IsKept next new

-- What a run is answered that nothing stands in the way of, where nothing failed: an update of a kept project is done, if its runners tell,
-- unless there was no memory or no room in the store; and what an update would do is found out, unless there was no memory.
pub record Finishes (tells : Bool) (next : Next) (wanted : Wanted) (old new : MemSite) (before now : Counts) (status : Status) : Type 0 where
  pub success : IsTrue tells → IsKept next old → Succeeds wanted memory.ghosts next old new before now ⊤ status
  pub lists : ((any : Next) × IsKept any old) → Lists wanted (world_in old) (world_in new) before now ⊤ status

-- ---- the calls that pass

-- how many more calls of the site pass once a run may begin: so many where that is said, else as many as before
abbrev pub left_then : Option ℕ → Option ℕ → Option ℕ
left_then None left = left
left_then (Some calls) left = Some calls

-- and behind it: all of them again where that was said
abbrev pub left_behind : Option ℕ → Option ℕ → Option ℕ
left_behind None left = left
left_behind (Some calls) left = None

-- so many more calls of the site pass; nothing else happened
pub record Lets (left : Option ℕ) (old new : MemSite) : Type 0 where
  pub passes : left_of new ≡ left
  pub world : world_in new ≡ world_in old
  pub changes : changes_of new ≡ changes_of old
  pub first : first_of new ≡ first_of old
  pub calls : calls_of new ≡ calls_of old
  pub faults : faults_of new ≡ faults_of old
  pub fails : fails_of new ≡ fails_of old
