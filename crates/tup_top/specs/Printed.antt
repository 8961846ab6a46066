-- What is printed of one call: the lines of an update, or the line of a refusal; a front of them where the sink failed.
use Rattle.std.specs.Prelude.{◌≡◌, ◌≢◌, ◌⊎◌, ⊤, ℕ, Bool, true, List, [], ◌++◌, Option, IsTrue, IfOk, Result, Ok, Err, false}
use Rattle.tup_path.specs.Count.{Rose}
use Rattle.tup_site.specs.World.{World}
use Rattle.tup_site.specs.declared.site.Site.{Ghosts as Site}
use Rattle.tup_rule.specs.declared.rule.RuleName.{RuleName}
use Rattle.tup_runner.specs.Next.{Next}
use Rattle.tup_tell.specs.Sink.{GrownByPart}
use Rattle.tup_mini.specs.Means.{mini_next}
use Rattle.tup_graph.specs.declared.fault.GraphFault.{GraphFault}
use Rattle.tup_ledger.specs.declared.beginning.Begun.{Begun}
use Rattle.tup_compare.specs.Compared.{HasCompared}
use Rattle.tup_compare.specs.declared.compare.Compared.{Compared}
use Rattle.tup_phases.specs.Logged.{IsLogged}
use Rattle.tup_promise.specs.Kept.{IsKeptBySome}
use Rattle.tup_promise.specs.Unopened.{Unopened}
use Rattle.tup_promise.specs.declared.log.Log.{Log}
use Rattle.tup_promise.specs.declared.stop.Stop.{Stop}
use Rattle.tup_todo.specs.Lists.{ListsWhatIsDue}
use Rattle.tup_update.specs.Because.{AreExplained, CountsChains, OfEnded}
use Rattle.tup_todo.specs.declared.todo.Todo.{Todo as TodoLists}
use Rattle.tup_top.specs.Demo.{UpdatesDemo, demo_world}
use Rattle.tup_top.specs.Lines.{lines, last_line, begun_line, compared_line, todo_lines}
use Rattle.tup_top.specs.Order.{Wanted}
use Rattle.tup_top.specs.Status.{log_of_todo, status_of, status_of_begun, status_of_compared, status_of_todo}
use Rattle.tup_top.specs.Truth.{IsTrueOver}
use Rattle.tup_top.specs.declared.order.Order.TheVariants.{Init, Upd, Todo, Verify, Demo}
use Rattle.tup_top.specs.declared.status.Status.{Status}
use Rattle.tup_top.specs.declared.status.Status.TheVariants.{Done, Usage, SinkFault, TellFault, Memory}

-- all was done, and all was told
abbrev pub IsDone : Status → Type 0
IsDone (Done read ran removed) = ⊤
IsDone other = ⊥

-- what is answered in the end, where this status was to be printed: itself, want of memory, or in the place of a Done
-- that the sink failed, by its own count
abbrev pub Ends : ℕ → ℕ → Status → Status → Type 0
Ends before now status answer = (answer ≡ status) ⊎ (answer ≡ Memory) ⊎ ((answer ≡ SinkFault) × IsDone status × Rose before now)

-- the same of an update whose reporters were told before: or in the place of a Done that one of them failed
abbrev pub EndsTold : ℕ → ℕ → Status → Status → Type 0
EndsTold before now status answer = Ends before now status answer ⊎ ((answer ≡ TellFault) × IsDone status)

-- The sink has grown by this text, which ends with the line of a status, or by a front of it where there was no memory or the
-- sink's count rose; after Done all of it is there, and where memory was wanting in the place of that status nothing is.
pub record Prints (status : Status) (text : List ℕ) (before now : ℕ) (old new : List ℕ) (answer : Status) : Type 0 where
  pub part : GrownByPart text old new
  pub done : IsDone answer → new ≡ old ++ text
  pub all : answer ≢ Memory → ¬ Rose before now → new ≡ old ++ text
  pub untold : answer ≡ Memory → status ≢ Memory → new ≡ old

-- What an update with this log says of why rules were run: a chain of each that came to a verdict where it is asked for, and else
-- none. Over a kept site each is the chain of a reason.
abbrev pub SaysWhyOf : {S : Type 0} → Site S → S → Bool → Log → List (Option (List ℕ)) → Type 0
SaysWhyOf {S} site old explain log chains =
    OfEnded log (λ ended. CountsChains explain ended chains) × (IsTrue site.tells → IsKeptBySome site old → IsTrue explain → OfEnded log (λ ended. AreExplained site old ended chains))

-- What an update by so many runners told of itself that began these rules, was to go on after a bad verdict or not, said this of why
-- they were run, and led from one world to another; and what holds of its log by why it stopped. The site tells its worlds or doesn't: what
-- the log says by why it stopped is said of every site.
pub record Told (jobs : ℕ) (site keep_going : Bool) (says : Log → List (Option (List ℕ)) → Type 0) (holds : Log → Option Stop → Type 0) (old new : World) (ran : List RuleName) : Type 0 where
  pub log : Log
  -- why the rules of `log.ended` were run, in their order
  pub because : List (Option (List ℕ))
  pub said : says log because
  pub stopped : Option Stop
  pub begun : log.ran ≡ ran
  pub logged : IsLogged jobs keep_going log stopped
  pub so : holds log stopped
  pub unopened : IsTrue site → Unopened old new log stopped

-- The lines of such an update. They end with a status of which this is so by the log and by what the update came to: reporters may
-- have failed.
pub record PrintsUpdate (jobs : ℕ) (site keep_going : Bool) (says : Log → List (Option (List ℕ)) → Type 0) (holds : Log → Option Stop → Type 0) (hears : Log → Status → Status → Type 0) (world left : World) (ran : List RuleName) (before now : ℕ) (old new : List ℕ) (answer : Status) : Type 0 where
  pub told : Told jobs site keep_going says holds world left ran
  pub status : Status
  pub heard : hears told.log (status_of told.log told.stopped) status
  pub ends : Ends before now status answer
  pub prints : Prints status (lines told.log told.because status) before now old new answer

-- where there are no reporters
abbrev pub hears_none : Log → Status → Status → Type 0
hears_none log came status = (status ≡ came) ⊎ (status ≡ Memory)

-- the line of a comparison of this world
pub record PrintsComparison (site runner : Bool) (next : Next) (world : World) (before now : ℕ) (old new : List ℕ) (answer : Status) : Type 0 where
  pub compared : Result Compared Stop
  pub has : IsTrue site → IsTrue runner → HasCompared next world compared
  pub ends : Ends before now (status_of_compared compared) answer
  pub prints : Prints (status_of_compared compared) (compared_line (status_of_compared compared)) before now old new answer

-- The lines of what an update would do. Over a kept site they list just the folders whose Tupfile had to be read, the files that no rule
-- makes any more, and the rules that are due. They end with a status of which this is so by the folders that were read and by what was
-- found out: reporters may have failed.
pub record PrintsTodo (kept : Type 0) (hears : Log → Status → Status → Type 0) (world left : World) (before now : ℕ) (old new : List ℕ) (answer : Status) : Type 0 where
  pub todo : Result TodoLists Stop
  pub lists : kept → IfOk todo (ListsWhatIsDue world left)
  pub status : Status
  pub heard : hears (log_of_todo todo) (status_of_todo todo) status
  pub ends : Ends before now status answer
  pub prints : Prints status (todo_lines todo status) before now old new answer

-- the line of a beginning
pub record PrintsBegun (before now : ℕ) (old new : List ℕ) (answer : Status) : Type 0 where
  pub begun : Result Begun GraphFault
  pub ends : Ends before now (status_of_begun begun) answer
  pub prints : Prints (status_of_begun begun) (begun_line (status_of_begun begun)) before now old new answer

-- The lines of the update that a demo shows, over a site of its own. Their log is true; and unless there was no memory, it keeps what an
-- update of a kept site promises.
abbrev pub PrintsDemo : ℕ → ℕ → List ℕ → List ℕ → Status → Type 0
PrintsDemo before now old new answer = (ran : List RuleName) × (left : World) × (answer ≢ Memory → UpdatesDemo ran left answer)
    × PrintsUpdate 1 true false (λ log chains. chains ≡ []) (IsTrueOver mini_next demo_world left) hears_none demo_world left ran before now old new answer

-- the lines of what was asked for: of the update, of what it would do where the site is kept, of the beginning, of the comparison, of
-- the demo's update, or the line of the refusal. The first number says by how many runners an update goes.
abbrev pub Printed : ℕ → Bool → Bool → Type 0 → (Bool → Log → List (Option (List ℕ)) → Type 0) → (Log → Option Stop → Type 0) → (Log → Status → Status → Type 0) → Wanted → Next → World → World → List RuleName → ℕ → ℕ → List ℕ → List ℕ → Status → Type 0
Printed jobs site runner kept says holds hears (Ok (Upd program keep_going quiet verbose explain number log)) next world left ran before now old new answer = PrintsUpdate jobs site keep_going (says explain) holds hears world left ran before now old new answer
Printed jobs site runner kept says holds hears (Ok Init) next world left ran before now old new answer = PrintsBegun before now old new answer
Printed jobs site runner kept says holds hears (Ok Todo) next world left ran before now old new answer = PrintsTodo kept hears world left before now old new answer
Printed jobs site runner kept says holds hears (Ok Verify) next world left ran before now old new answer = PrintsComparison site runner next world before now old new answer
Printed jobs site runner kept says holds hears (Ok Demo) next world left ran before now old new answer = PrintsDemo before now old new answer
Printed jobs site runner kept says holds hears (Err place) next world left ran before now old new answer = Prints (Usage place) (last_line (Usage place)) before now old new answer
