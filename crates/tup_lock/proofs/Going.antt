-- Where nothing is stopped, nothing was stopped before.
use Rattle.std.proofs.Common.{◌≡◌, ℕ, Bool, true, false, List, [], ◌∷◌, ◌++◌, Option, None, Some, sym, ap, ◌∙◌}
use Rattle.std.specs.Prelude.{if◌then◌else◌, unwrap_or}
use Rattle.std.proofs.lemmas.Option.{none-some}
use Rattle.tup_path.specs.Name.{Names}
use Rattle.tup_stamp.specs.declared.Stamp.{Stamp}
use Rattle.tup_access.specs.declared.verdict.Verdict.{Verdict}
use Rattle.tup_access.specs.declared.verdict.Verdict.TheVariants.{Good, Failed, IllegalRead, IllegalWrite, Unwritten, TooManyReads}
use Rattle.tup_core.specs.declared.event.Cause.{Cause}
use Rattle.tup_core.specs.declared.event.Cause.TheVariants as causes
use Rattle.tup_core.specs.declared.event.CoreEvent.{CoreEvent}
use Rattle.tup_core.specs.declared.event.CoreEvent.TheVariants.{Claim, Ask, Deny, Finish, Stop}
use Rattle.tup_core.specs.declared.plan.Plan.{Plan}
use Rattle.tup_core.specs.declared.running.Running.{Running}
use Rattle.tup_core.specs.Run.{end_of}
use Rattle.tup_core.specs.Step.{State, after, emptied, ended, finished}
use Rattle.tup_schedule.proofs.Courses.{end_both}
use Rattle.tup_board.specs.Board.{BoardState, Opening, plan_of, start, state}

module _ (plan : Plan) where
  bad_going : (keeps : Bool) (was : Option Cause) → (if keeps then was else Some (unwrap_or was causes.Bad)) ≡ None → was ≡ None
  bad_going true was going = going
  bad_going false was going = absurd (none-some (unwrap_or was causes.Bad) (sym going))

  ended_going : (before : State) (at : ℕ) (verdict : Verdict) (written : List (Names × Stamp)) → (ended plan before at verdict written).stopped ≡ None → before.stopped ≡ None
  ended_going before at Good written going = going
  ended_going before at (Failed status) written going = bad_going plan.keep_going before.stopped going
  ended_going before at (IllegalRead text) written going = bad_going plan.keep_going before.stopped going
  ended_going before at (IllegalWrite text) written going = bad_going plan.keep_going before.stopped going
  ended_going before at (Unwritten path) written going = bad_going plan.keep_going before.stopped going
  ended_going before at TooManyReads written going = bad_going plan.keep_going before.stopped going

  finished_going : (before : State) (seat : ℕ) (runs : Option Running) (verdict : Verdict) (written : List (Names × Stamp)) → (finished plan before seat runs verdict written).stopped ≡ None → before.stopped ≡ None
  finished_going before seat None verdict written going = going
  finished_going before seat (Some running) verdict written going = ended_going (emptied before seat) running.rule verdict written going

  after_going : (before : State) (event : CoreEvent) → (after plan before event).stopped ≡ None → before.stopped ≡ None
  after_going before (Claim seat rule) going = going
  after_going before (Ask seat text answer) going = going
  after_going before (Deny seat text verdict) going = going
  after_going before (Finish seat verdict written) going = finished_going before seat (before.seats seat) verdict written going
  after_going before (Stop seat cause) going = absurd (none-some (unwrap_or before.stopped cause) (sym going))

  pub end_going : (events : List CoreEvent) (before : State) → (end_of plan before events).stopped ≡ None → before.stopped ≡ None
  end_going [] before going = going
  end_going (event ∷ events) before going = after_going before event (end_going events (after plan before event) going)

-- a board to which events were added
pub still_going : {S : Type 0} (old new : BoardState S) (more : List CoreEvent) → new.opening ≡ old.opening → new.history ≡ old.history ++ more → (state new).stopped ≡ None → (state old).stopped ≡ None
still_going {S} old new more same adds going =
    let is : state new ≡ end_of (plan_of old) (state old) more =
    ap (λ (o : Opening S). state (record new { opening = o })) same ∙ ap (λ (h : List CoreEvent). state (record old { history = h })) adds ∙ end_both (plan_of old) old.history more (start old) in
    end_going (plan_of old) more (state old) (ap (λ (s : State). s.stopped) (sym is) ∙ going)
