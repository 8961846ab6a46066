-- What a board's calls do at a seat, and what a seat finds of a board.
use Rattle.std.proofs.Common.{◌≡◌, ℕ, List, [], ◌∷◌, ◌++◌, Option, None, Some, Result, Ok, Err, refl, sym, ap, ◌∙◌, subst}
use Rattle.std.specs.Prelude.{All, IsSome, IsTrue, unwrap_or}
use Rattle.std.proofs.lemmas.Bool.{false≢true}
use Rattle.std.proofs.lemmas.List.{append-nil}
use Rattle.std.proofs.lemmas.List.Elements.{All-cons, All-nil}
use Rattle.std.proofs.lemmas.Option.{none-some}
use Rattle.tup_path.specs.Name.{Content}
use Rattle.tup_site.specs.Known.{Keeps, knows}
use Rattle.tup_site.specs.declared.site.Site.{Ghosts as Site}
use Rattle.tup_runner.specs.Next.{Asks}
use Rattle.tup_runner.specs.declared.step.Ended.{Ended}
use Rattle.tup_access.specs.declared.verdict.Verdict.{Verdict}
use Rattle.tup_core.specs.declared.event.Cause.{Cause}
use Rattle.tup_core.specs.declared.event.Cause.TheVariants as causes
use Rattle.tup_core.specs.declared.event.CoreEvent.{CoreEvent}
use Rattle.tup_core.specs.declared.event.CoreEvent.TheVariants.{Claim, Finish, Stop}
use Rattle.tup_core.specs.declared.running.Running.{Running}
use Rattle.tup_core.specs.Step.{State}
use Rattle.tup_schedule.specs.Course.{Claims, CourseState, EndsDenied, Stops}
use Rattle.tup_schedule.specs.declared.claimed.Claimed.{Claimed}
use Rattle.tup_schedule.specs.declared.claimed.Claimed.TheVariants.{Rule as Gives, Wait, Over}
use Rattle.tup_rule_outputs.specs.Fault.{CountsFaults}
use Rattle.tup_rule_outputs.specs.declared.fault.BoardFault.{BoardFault}
use Rattle.tup_rule_outputs.specs.declared.fault.BoardFault.TheVariants as fault_by
use Rattle.tup_board.specs.declared.answers.Asked.{Asked}
use Rattle.tup_board.specs.declared.answers.Asked.TheVariants as reply_by
use Rattle.tup_board.specs.Board.{BoardState, Opening, course_of, plan_of, seat_of, state, with_history}
use Rattle.tup_board.specs.Calls.{AreKnown, Finishes, IsAsked, ask_events, opened_as}
use Rattle.tup_board.proofs.Known.{keeps_all}
use Rattle.tup_board.proofs.Seeing.{state_more}
use Rattle.tup_board.specs.Entries.{entries_at}
use Rattle.tup_lock.specs.Boards.{board_log}
use Rattle.tup_lock.specs.Held.{IsFound, OwnStep}
use Rattle.tup_lock.proofs.Going.{still_going}

module _ {S : Type 0} (site : Site S) (number : ℕ) where
  -- ---- what a seat finds
  module _ (last found : BoardState S) (is : IsFound (board_log site) number last found) where
    -- its entries are those that it left
    pub same_entries : entries_at number found.history ≡ entries_at number last.history
    same_entries = is.same

    -- and the plan is the one that it had
    pub same_plan : plan_of found ≡ plan_of last
    same_plan = ap (λ (b : BoardState S). b.opening.plan) is.later.began

    -- no content is forgotten
    pub more_known : IsTrue site.tells → Keeps (site.known last.site) (site.known found.site)
    more_known tells content it = (is.later.known content (tells, it)).1

    pub still_known : (asks : Asks) → (IsTrue site.tells → AreKnown (site.known last.site) asks) → IsTrue site.tells → AreKnown (site.known found.site) asks
    still_known asks known tells text content asked = keeps_all (site.known last.site) (site.known found.site) (more_known tells) content (known tells text content asked)

  -- ---- what a call does
  module _ (old new : BoardState S) where
    Steps : Type 0
    Steps = OwnStep (board_log site) number old new

    own : (event : CoreEvent) → seat_of event ≡ number → All (λ (e : CoreEvent). seat_of e ≡ number) (event ∷ [])
    own event is = All-cons (λ (e : CoreEvent). seat_of e ≡ number) event [] is (All-nil (λ (e : CoreEvent). seat_of e ≡ number))

    nothing : All (λ (e : CoreEvent). seat_of e ≡ number) []
    nothing = All-nil (λ (e : CoreEvent). seat_of e ≡ number)

    -- the site failed at nothing, where nothing was stopped
    abbrev Steady : Type 0
    Steady = (state new).stopped ≡ None → site.faults new.site ≡ site.faults old.site

    step_by : new.opening ≡ old.opening → (IsTrue site.tells → Keeps (site.known old.site) (site.known new.site)) → Steady
        → (more : List CoreEvent) → new.history ≡ old.history ++ more → All (λ (e : CoreEvent). seat_of e ≡ number) more → OwnStep (board_log site) number old new
    step_by opening keeps steady more adds mine = record {
      later = record {
        began = ap (λ (o : Opening S). opened_as o.plan o.graph o.site) opening;
        more = more;
        adds = adds;
        known = λ text it. (it.0, keeps it.0 text it.1);
        stood = λ count it. (still_going old new more opening adds it.0, sym (steady it.0) ∙ it.1);
      };
      own = mine;
    }

    one_by : new.opening ≡ old.opening → (IsTrue site.tells → Keeps (site.known old.site) (site.known new.site)) → Steady
        → (event : CoreEvent) → seat_of event ≡ number → new.history ≡ old.history ++ event ∷ [] → OwnStep (board_log site) number old new
    one_by opening keeps steady event is adds = step_by opening keeps steady (event ∷ []) adds (own event is)

    none_by : new.opening ≡ old.opening → (IsTrue site.tells → Keeps (site.known old.site) (site.known new.site)) → Steady → new.history ≡ old.history → OwnStep (board_log site) number old new
    none_by opening keeps steady same = step_by opening keeps steady [] (same ∙ sym (append-nil old.history)) nothing

    -- a call that leaves the site
    same_keeps : site.known new.site ≡ site.known old.site → Keeps (site.known old.site) (site.known new.site)
    same_keeps same content it = subst (λ (known : List Content). IsTrue (knows known content)) (sym same) it

    -- a stop was added
    never_going : (cause : Cause) → new.opening ≡ old.opening → new.history ≡ old.history ++ Stop number cause ∷ [] → (state new).stopped ≡ None → ⊥
    never_going cause opening adds none = none-some (unwrap_or (state old).stopped cause) (sym none ∙ ap (λ (s : State). s.stopped) (state_more number old new (Stop number cause) opening adds))

    module _ (rest : new ≡ with_history old new.history) where
      opening_rest : new.opening ≡ old.opening
      opening_rest = ap (λ (b : BoardState S). b.opening) rest

      keeps_rest : IsTrue site.tells → Keeps (site.known old.site) (site.known new.site)
      keeps_rest tells = same_keeps (ap (λ (b : BoardState S). site.known b.site) rest)

      steady_rest : Steady
      steady_rest none = ap (λ (b : BoardState S). site.faults b.site) rest

      pub claim_steps : (result : Claimed) → Claims number (course_of old) result (course_of new) → OwnStep (board_log site) number old new
      claim_steps (Gives rule) claims = one_by opening_rest keeps_rest steady_rest (Claim number rule) refl (ap (λ (c : CourseState). c.history) claims.1)
      claim_steps Wait claims = none_by opening_rest keeps_rest steady_rest (ap (λ (c : CourseState). c.history) claims.3)
      claim_steps Over claims = none_by opening_rest keeps_rest steady_rest (ap (λ (c : CourseState). c.history) claims.1)

      pub denied_steps : EndsDenied number (course_of old) (course_of new) → OwnStep (board_log site) number old new
      denied_steps ends = one_by opening_rest keeps_rest steady_rest (Finish number ends.was.verdict []) refl (ap (λ (c : CourseState). c.history) ends.adds)

      pub stop_steps : (cause : Cause) → Stops number cause (course_of old) (course_of new) → OwnStep (board_log site) number old new
      stop_steps cause stops = by ((state old).seats number) (state old).stopped refl refl
        where
          stopped : ((((state old).seats number ≡ None) × IsSome (state old).stopped) → ⊥) → OwnStep (board_log site) number old new
          stopped going = one_by opening_rest keeps_rest steady_rest (Stop number cause) refl (ap (λ (c : CourseState). c.history) (stops.one going))

          by : (runs : Option Running) (why : Option Cause) → (state old).seats number ≡ runs → (state old).stopped ≡ why → OwnStep (board_log site) number old new
          by (Some running) why runs is = stopped (λ both. none-some running (sym both.0 ∙ runs))
          by None None runs is = stopped (λ both. false≢true (subst (λ (o : Option Cause). IsSome o) is both.1))
          by None (Some first) runs is = none_by opening_rest keeps_rest steady_rest (ap (λ (c : CourseState). c.history) (stops.none (runs, subst (λ (o : Option Cause). IsSome o) (sym is) refl)))

    pub ask_steps : (text : List ℕ) (result : Result Asked BoardFault) → IsAsked number text old result new → (IsTrue site.tells → site.known new.site ≡ site.known old.site)
        → CountsFaults (site.faults old.site) (site.faults new.site) None result → OwnStep (board_log site) number old new
    ask_steps text result asked known counts = by result (ap (λ (b : BoardState S). b.history) asked.adds) counts
      where
        opening_is : new.opening ≡ old.opening
        opening_is = ap (λ (b : BoardState S). b.opening) asked.adds

        keeps : IsTrue site.tells → Keeps (site.known old.site) (site.known new.site)
        keeps tells = same_keeps (known tells)

        by : (r : Result Asked BoardFault) → new.history ≡ old.history ++ ask_events number text r → CountsFaults (site.faults old.site) (site.faults new.site) None r → OwnStep (board_log site) number old new
        by (Ok (reply_by.Content content)) adds counts = step_by opening_is keeps (λ _. counts.steady (λ e. cc)) _ adds (own _ refl)
        by (Ok reply_by.Absent) adds counts = step_by opening_is keeps (λ _. counts.steady (λ e. cc)) _ adds (own _ refl)
        by (Ok (reply_by.Denied verdict)) adds counts = step_by opening_is keeps (λ _. counts.steady (λ e. cc)) _ adds (own _ refl)
        by (Err fault_by.Site) adds counts = step_by opening_is keeps (λ none. absurd (never_going causes.Site opening_is adds none)) _ adds (own _ refl)
        by (Err (fault_by.TooLarge bytes)) adds counts = step_by opening_is keeps (λ _. counts.steady (λ e. cc)) _ adds (own _ refl)
        by (Err fault_by.Full) adds counts = step_by opening_is keeps (λ _. counts.steady (λ e. cc)) _ adds (own _ refl)
        by (Err fault_by.Memory) adds counts = step_by opening_is keeps (λ _. counts.steady (λ e. cc)) [] adds nothing

    pub finish_steps : (ended : Ended) (result : Result Verdict BoardFault) → Finishes number ended old result new → new.opening ≡ old.opening → (IsTrue site.tells → Keeps (site.known old.site) (site.known new.site))
        → CountsFaults (site.faults old.site) (site.faults new.site) old.lost result → OwnStep (board_log site) number old new
    finish_steps ended (Ok given) fin opening keeps counts = step_by opening keeps (λ _. counts.steady (λ e. cc)) _ fin.2 (own _ refl)
    finish_steps ended (Err fault_by.Site) fin opening keeps counts = step_by opening keeps (λ none. absurd (never_going causes.Site opening fin.0 none)) _ fin.0 (own _ refl)
    finish_steps ended (Err fault_by.Full) fin opening keeps counts = step_by opening keeps (λ _. counts.steady (λ e. cc)) _ fin.0 (own _ refl)
    finish_steps ended (Err fault_by.Memory) fin opening keeps counts = none_by opening keeps (λ _. counts.steady (λ e. cc)) fin
    finish_steps ended (Err (fault_by.TooLarge bytes)) fin opening keeps counts = absurd fin
