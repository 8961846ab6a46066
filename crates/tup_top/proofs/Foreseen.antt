-- What is answered where it is found out what an update would do.
use Rattle.std.proofs.Common.{◌≡◌, ℕ, List, [], Result, Ok, Err, Some, inl, inr, refl, subst}
use Rattle.std.specs.Prelude.{IfErr, IfSome}
use Rattle.std.specs.Result.{result_err}
use Rattle.tup_site.specs.World.{World}
use Rattle.tup_promise.specs.Cause.{HasRunCause, HasCountedCause as StopHasCountedCause}
use Rattle.tup_promise.specs.Needed.{FlagsWhatWasDue}
use Rattle.tup_promise.specs.declared.stop.Stop.{Stop}
use Rattle.tup_promise.specs.declared.stop.Stop.TheVariants.{NoStore, BadStore, Sources, UserFile, Bad, Run, Full, Outside}
use Rattle.tup_phases.specs.Kept.{BlamesSources}
use Rattle.tup_phases.specs.Prepared.{StopsSurvey}
use Rattle.tup_phases.specs.Room.{FillsStore}
use Rattle.tup_todo.specs.Lists.{GoesOnFromStore}
use Rattle.tup_todo.specs.declared.todo.Todo.{Todo}
use Rattle.tup_top.specs.Printed.{Ends, EndsTold, IsDone}
use Rattle.tup_top.specs.Promise.{FindsOut, HasAloneCause, beside}
use Rattle.tup_top.specs.Status.{IfCame, log_of_todo, status_of, status_of_stop, status_of_todo}
use Rattle.tup_top.specs.declared.status.Status.{Status}
use Rattle.tup_top.specs.declared.status.Status.TheVariants.{TellFault}
use Rattle.tup_top.proofs.Causes.{answered_told, done_is_none, opens_so, shared_cause, told_counted}
use Rattle.tup_top.proofs.Crewed.{idle_alone}

-- its status tells of its log
told_so : (todo : Result Todo Stop) → status_of_todo todo ≡ status_of (log_of_todo todo) (result_err todo)
told_so (Ok todo) = refl
told_so (Err stop) = refl

-- what is so of the cause of a refusal is so of what it was stopped by
if_some : (P : Stop → Type 0) (todo : Result Todo Stop) → IfErr todo P → IfSome (result_err todo) P
if_some P (Ok todo) is = tt
if_some P (Err stop) is = is

-- no runner is blamed for what stops before any rule is run
unrun : (todo : Result Todo Stop) → ((stop : Stop) → result_err todo ≡ Some stop → StopsSurvey stop) → HasRunCause 0 0 (result_err todo)
unrun (Ok todo) before = refl
unrun (Err stop) before = by stop (before stop refl)
  where
    by : (stop : Stop) → StopsSurvey stop → HasRunCause 0 0 (Some stop)
    by NoStore is = refl
    by (BadStore offset) is = refl
    by (Sources fault) is = refl
    by (UserFile path written found) is = absurd is
    by (Bad name verdict) is = refl
    by Run is = absurd is
    by Full is = refl
    by (Outside failed) is = refl

-- no count rises unseen
pub todo_cause : (site_before site_now sink_before sink_now : ℕ) (todo : Result Todo Stop) (answer : Status) → EndsTold sink_before sink_now (status_of_todo todo) answer → (IsDone answer → sink_now ≡ sink_before)
    → StopHasCountedCause site_before site_now (result_err todo) → ((stop : Stop) → result_err todo ≡ Some stop → StopsSurvey stop) → (runners : List ℕ)
    → HasAloneCause (beside runners site_before sink_before) (beside runners site_now sink_now) answer
todo_cause site_before site_now sink_before sink_now todo answer ends sink cause before runners =
    idle_alone site_before site_now sink_before sink_now runners answer
    (told_counted site_before site_now 0 0 sink_before sink_now (log_of_todo todo) (result_err todo) (status_of_todo todo) answer (told_so todo) ends sink cause (unrun todo before))

-- what came of it is told by the status that is answered
pub found_out : (kept : Type 0) (old new : World) (site_before site_now before now : ℕ) (todo : Result Todo Stop) (answer : Status) → EndsTold before now (status_of_todo todo) answer
    → StopHasCountedCause site_before site_now (result_err todo) → GoesOnFromStore old new (result_err todo) → IfErr todo StopsSurvey → (kept → IfErr todo (BlamesSources old)) → (kept → IfErr todo (FillsStore new))
    → (kept → FlagsWhatWasDue old new)
    → IfCame answer (FindsOut kept old new)
found_out kept old new site_before site_now before now todo answer ends cause goes stops blamed full flagged =
    answered_told (FindsOut kept old new) before now site_before site_now (log_of_todo todo) (result_err todo) (status_of_todo todo) answer (told_so todo) ends (shared_cause site_before site_now (result_err todo) cause)
    (record {
      opens = opens_so old new [] goes.0 goes.1 (result_err todo) goes.2;
      stops = if_some StopsSurvey todo stops;
      blamed = λ here. if_some (BlamesSources old) todo (blamed here);
      full = λ here. if_some (FillsStore new) todo (full here);
      flagged = flagged;
    })
    (record { opens = (result_err todo, goes.0, goes.1, goes.2); stops = tt; blamed = λ _. tt; full = λ _. tt; flagged = flagged })

-- what was stopped isn't done
pub stopped_undone : (before now : ℕ) (stop : Stop) (answer : Status) → Ends before now (status_of_stop stop) answer → IsDone answer → ⊥
stopped_undone before now stop answer (inl e) done = none_done (subst IsDone e done)
  where
    none_done : IsDone (status_of_stop stop) → ⊥
    none_done done = absurd (cc (done_is_none (log_of_todo (Err stop)) (Some stop) done))
stopped_undone before now stop answer (inr (inl e)) done = subst IsDone e done
stopped_undone before now stop answer (inr (inr (e, was, rose))) done = subst IsDone e done

-- finding out comes to no failure of a reporter
pub found_otherwise : (todo : Todo) → status_of_todo (Ok todo) ≡ TellFault → ⊥
found_otherwise todo is = absurd (cc is)
