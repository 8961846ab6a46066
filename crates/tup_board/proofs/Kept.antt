-- What is kept of a board once its course went on, while its site and graph stay.
use Rattle.std.proofs.Common.{◌≡◌, ◌⊎◌, ℕ, ◌<◌, Bool, true, false, List, [], ◌∷◌, ◌++◌, Option, None, Some, refl, sym, ap, ◌∙◌, subst, ⊎_elim, inl, inr}
use Rattle.std.specs.Prelude.{IsTrue, IsSome, if◌then◌else◌, length, slice_get, unwrap_or}
use Rattle.std.proofs.lemmas.Bool.{true≢false}
use Rattle.std.proofs.lemmas.Option.{same_Some, none-some}
use Rattle.std.specs.FinMap as finite
use Rattle.tup_path.specs.Name.{Names}
use Rattle.tup_stamp.specs.declared.Stamp.{Stamp}
use Rattle.tup_access.specs.declared.verdict.Verdict.{Verdict}
use Rattle.tup_access.specs.declared.verdict.Verdict.TheVariants.{Good}
use Rattle.tup_access.proofs.Permitted.{access-No}
use Rattle.tup_site.specs.declared.site.Site.{Ghosts as Site}
use Rattle.tup_runner.specs.declared.runner.Runner.{Ghosts as Runner}
use Rattle.tup_stored_graph.specs.Held.{Held}
use Rattle.tup_core.specs.declared.event.Cause.{Cause}
use Rattle.tup_core.specs.declared.event.Cause.TheVariants.{Bad, Run, Memory, Site as ByVisit, TooLarge, Full}
use Rattle.tup_core.specs.declared.event.CoreEvent.{CoreEvent}
use Rattle.tup_core.specs.declared.event.CoreEvent.TheVariants.{Claim, Ask, Deny, Finish, Stop}
use Rattle.tup_core.specs.declared.plan.Plan.{Plan}
use Rattle.tup_core.specs.declared.running.Running.{Running}
use Rattle.tup_core.specs.Honest.{EndsHonestly, IsHonest}
use Rattle.tup_core.specs.Run.{IsRun}
use Rattle.tup_core.proofs.Counted.{all_counted}
use Rattle.tup_rule.specs.declared.rule.Rule.{Rule}
use Rattle.tup_schedule.specs.Turn.{IsFirstReady}
use Rattle.tup_core.specs.Step.{State, Runs, IsEnabled, after, emptied}
use Rattle.tup_core.proofs.Orderly.{finished_is}
use Rattle.tup_schedule.specs.declared.claimed.Claimed.{Claimed}
use Rattle.tup_schedule.specs.declared.claimed.Claimed.TheVariants.{Rule as Gives, Wait, Over}
use Rattle.tup_schedule.specs.Course.{CourseState, Claims, Stops, EndsDenied, WasDenied, first, now, with_events}
use Rattle.tup_schedule.proofs.Courses.{denied_can, end_more}
use Rattle.tup_schedule.proofs.Going.{bad_ended}
use Rattle.tup_rule_outputs.specs.Lost.{Lost}
use Rattle.tup_rule_outputs.specs.declared.fault.BoardFault.TheVariants as fault_by
use Rattle.tup_board.specs.Board.{BoardState, course_of, plan_of, start, state, with_history}
use Rattle.tup_board.specs.Calls.{MeansDenied}
use Rattle.tup_board.specs.Sound.{IsSound, IsTrueFault, IsTrueNow}
use Rattle.tup_board.proofs.Stamps.{end_leaves}
use Rattle.tup_board.proofs.Sounds.{IsHonestEvent, IsQuiet, ask_quiet, bad_quiet, cause_on, cause_stays, deny_quiet, sound_claim, sound_more, sound_stop, stop_quiet}

-- the causes for which a caller stops aren't a bad verdict
pub other_cause : (cause : Cause) → (cause ≡ Run) ⊎ (cause ≡ Memory) → cause ≡ Bad → ⊥
other_cause cause (inl is) bad = cc
other_cause cause (inr is) bad = cc

-- ---- what callers see of a board that has this
module _ {S R : Type 0} (site : Site S) (runner : Runner R) (inside given : BoardState S) (sound : IsSound site runner inside) (view : inside ≡ given) where
  pub sound_seen : IsSound site runner given
  sound_seen = subst (IsSound site runner) view sound

  pub events_seen : (events : List CoreEvent) → events ≡ inside.history → events ≡ given.history
  events_seen events is = is ∙ ap (λ (it : BoardState S). it.history) view

  pub run_seen : (events : List CoreEvent) → events ≡ inside.history → IsRun (plan_of given) (start given) events
  run_seen events is = subst (IsRun (plan_of given) (start given)) (sym (events_seen events is)) sound_seen.run

  pub honest_seen : (events : List CoreEvent) → events ≡ inside.history → IsTrue site.tells → IsTrue runner.tells → IsHonest runner.next (site.known given.site) (plan_of given) (start given) events
  honest_seen events is told tells =
      subst (IsHonest runner.next (site.known given.site) (plan_of given) (start given)) (sym (events_seen events is)) (sound_seen.honest told tells)

-- ---- the end of a command that was denied an ask is honest, where its runner means to ask that
module _ {S R : Type 0} (site : Site S) (runner : Runner R) (b : BoardState S) (seat : ℕ) (means : MeansDenied site runner b seat) (was : WasDenied (course_of b) seat) where
  -- a seat runs one command of one rule, which was denied one text
  running_is : (running : Running) → (state b).seats seat ≡ Some running → means.was.it.running ≡ running
  running_is running runs = same_Some _ _ (sym means.was.it.runs.here ∙ runs)

  rule_is : (running : Running) (rule : Rule) → means.was.it.running ≡ running → slice_get (plan_of b).rules running.rule ≡ Some rule → means.was.it.rule ≡ rule
  rule_is running rule same placed = same_Some _ _ (sym means.was.it.runs.placed ∙ ap (λ (r : Running). slice_get (plan_of b).rules r.rule) same ∙ placed)

  denied_is : (running : Running) → means.was.it.running ≡ running → running.denied ≡ Some (means.was.text, means.was.verdict)
  denied_is running same = ap (λ (r : Running). r.denied) (sym same) ∙ means.was.denied

  verdict_is : means.was.verdict ≡ was.verdict
  verdict_is = one_denied (sym (denied_is was.it.running (running_is was.it.running was.it.runs.here)) ∙ was.denied)
    where
      one_denied : {text other : List ℕ} {one verdict : Verdict} → (let left : Option (List ℕ × Verdict) = Some (text, one) in left) ≡ Some (other, verdict) → one ≡ verdict
      one_denied {text} {other} {one} {verdict} e = ap (λ (p : List ℕ × Verdict). p.1) (same_Some (text, one) (other, verdict) e)

  pub denied_honest : IsTrue site.tells → IsTrue runner.tells → IsHonestEvent runner.next (site.known b.site) (plan_of b) (state b) (Finish seat was.verdict [])
  denied_honest told tells = (λ running rule runs. ends running rule (running_is running runs.here) runs.placed, tt)
    where
      Ends : Rule → Running → Option (List ℕ × Verdict) → Verdict → Type 0
      Ends rule running denied verdict = EndsHonestly runner.next (site.known b.site) rule running denied verdict []

      ends : (running : Running) (rule : Rule) → means.was.it.running ≡ running → slice_get (plan_of b).rules running.rule ≡ Some rule → Ends rule running running.denied was.verdict
      ends running rule same placed =
          subst (λ (d : Option (List ℕ × Verdict)). Ends rule running d was.verdict) (sym (denied_is running same))
          (subst (λ (v : Verdict). Ends rule running (Some (means.was.text, means.was.verdict)) v) verdict_is
          (subst (λ (r : Running). Ends rule r (Some (means.was.text, means.was.verdict)) means.was.verdict) same
          (subst (λ (r : Rule). Ends r means.was.it.running (Some (means.was.text, means.was.verdict)) means.was.verdict) (rule_is running rule same placed)
          (means.means told tells))))

-- ---- the end of a command that isn't Good
module _ {S R : Type 0} (site : Site S) (runner : Runner R) (b : BoardState S) (sound : IsSound site runner b) (seat : ℕ) (running : Running) (verdict : Verdict)
    (here : (state b).seats seat ≡ Some running) (bad : verdict ≡ Good → ⊥) where
  abbrev ending : CoreEvent
  ending = Finish seat verdict []

  abbrev next_is : BoardState S
  next_is = with_history b (b.history ++ ending ∷ [])

  quiet : IsQuiet (plan_of b) (state b) ending
  quiet = bad_quiet (plan_of b) (state b) seat running verdict [] here bad

  abbrev stops : Bool → Option Cause → Option Cause
  stops keeps why = if keeps then why else Some (unwrap_or why Bad)

  stopped_is : (after (plan_of b) (state b) ending).stopped ≡ stops (plan_of b).keep_going (state b).stopped
  stopped_is = ap (λ (s : State). s.stopped) (finished_is (plan_of b) (state b) seat running verdict [] here ∙ bad_ended (plan_of b) (emptied (state b) seat) running.rule verdict [] bad)

  abbrev TrueNow : Cause → Type 0
  TrueNow c = IsTrueNow site runner next_is c

  cause_now : (keeps : Bool) (why : Option Cause) → (plan_of b).keep_going ≡ keeps → (state b).stopped ≡ why → (cause : Cause) → (state next_is).stopped ≡ Some cause → TrueNow cause
  cause_now true why keeps was cause stopped =
      cause_stays site runner b ending quiet sound (stopped_is ∙ ap (λ (k : Bool). stops k (state b).stopped) keeps) cause stopped
  cause_now false (Some earlier) keeps was cause stopped =
      cause_stays site runner b ending quiet sound (stopped_is ∙ ap (λ (k : Bool). stops k (state b).stopped) keeps ∙ ap (stops false) was ∙ sym was) cause stopped
  cause_now false None keeps was cause stopped =
      subst TrueNow (same_Some _ _ (sym (ap (λ (s : State). s.stopped) (end_more (plan_of b) (start b) b.history ending) ∙ stopped_is ∙ ap (λ (k : Bool). stops k (state b).stopped) keeps ∙ ap (stops false) was) ∙ stopped)) tt

  pub sound_bad : IsEnabled (plan_of b) (state b) ending
      → (IsTrue site.tells → IsTrue runner.tells → IsHonestEvent runner.next (site.known b.site) (plan_of b) (state b) ending) → IsSound site runner next_is
  sound_bad enabled honest = sound_more site runner b ending quiet sound enabled honest (cause_now (plan_of b).keep_going (state b).stopped refl refl)

-- ---- a board by its parts
module _ {S R : Type 0} (site : Site S) (runner : Runner R) (course : CourseState) (first_graph graph : Held) (first_site s : S) (lost : Option Lost) where
  -- the board whose course has come so far
  abbrev pub board_at : CourseState → BoardState S
  board_at c = record { opening = record { plan = c.plan; graph = first_graph; site = first_site }; history = c.history; site = s; graph = graph; lost = lost }

  -- what is kept of it
  pub record KeepsBoard (c : CourseState) : Type 0 where
    pub files : c.files ≡ finite.entries first_graph.nodes.seen
    pub plan : c.plan ≡ course.plan
    pub sound : IsSound site runner (board_at c)
    pub stamps : (path : Names) → (now c).files path ≡ (now course).files path

  module _ (given : BoardState S) (files : course.files ≡ finite.entries first_graph.nodes.seen) (sound : IsSound site runner (board_at course)) (view : board_at course ≡ given) where
    -- its course is the one that callers see
    here : course ≡ course_of (board_at course)
    here = ap (λ f. record course { files = f }) files

    pub course_is : course ≡ course_of given
    course_is = here ∙ ap course_of view

    pub plan_here : (plan : Plan) → plan ≡ plan_of given → plan ≡ course.plan
    plan_here plan is = is ∙ sym (ap plan_of view)

    pub to_course : (P : CourseState → Type 0) → P (course_of given) → P course
    to_course P it = subst P (sym course_is) it

    pub kept_same : (new : CourseState) → new ≡ course → KeepsBoard new
    kept_same new is = subst KeepsBoard (sym is) (record { files = files; plan = refl; sound = sound; stamps = λ path. refl })

    -- one more event, which leaves the files
    pub kept_more : (new : CourseState) (event : CoreEvent) → new ≡ with_events course (event ∷ []) → ((path : Names) → (after course.plan (now course) event).files path ≡ (now course).files path)
        → IsSound site runner (with_history (board_at course) (course.history ++ event ∷ [])) → KeepsBoard new
    kept_more new event is same more =
        subst KeepsBoard (sym is) (record {
          files = files;
          plan = refl;
          sound = more;
          stamps = λ path. ap (λ (s : State). s.files path) (end_more course.plan (first course) course.history event) ∙ same path;
        })

    -- an event that may happen for callers may happen here
    enabled_here : (event : CoreEvent) → IsEnabled (plan_of given) (state given) event → IsEnabled (plan_of (board_at course)) (state (board_at course)) event
    enabled_here event enabled = subst (λ (b : BoardState S). IsEnabled (plan_of b) (state b) event) (sym view) enabled

    -- ---- an ask, answered or denied
    pub ask_kept : (seat : ℕ) (text : List ℕ) (answer : Option Stamp) (new : CourseState) → IsEnabled (plan_of given) (state given) (Ask seat text answer)
        → new ≡ with_events course (Ask seat text answer ∷ []) → KeepsBoard new
    ask_kept seat text answer new enabled is =
        let quiet = ask_quiet (plan_of (board_at course)) (state (board_at course)) seat text answer in
        kept_more new (Ask seat text answer) is (λ path. refl)
        (sound_more site runner (board_at course) (Ask seat text answer) quiet sound (enabled_here (Ask seat text answer) enabled) (λ told means. tt)
        (cause_stays site runner (board_at course) (Ask seat text answer) quiet sound refl))

    pub deny_kept : (seat : ℕ) (text : List ℕ) (verdict : Verdict) (new : CourseState) → IsEnabled (plan_of given) (state given) (Deny seat text verdict)
        → new ≡ with_events course (Deny seat text verdict ∷ []) → KeepsBoard new
    deny_kept seat text verdict new enabled is =
        let quiet = deny_quiet (plan_of (board_at course)) (state (board_at course)) seat text verdict in
        kept_more new (Deny seat text verdict) is (λ path. refl)
        (sound_more site runner (board_at course) (Deny seat text verdict) quiet sound (enabled_here (Deny seat text verdict) enabled) (λ told means. tt)
        (cause_stays site runner (board_at course) (Deny seat text verdict) quiet sound refl))

    -- ---- a stop for a refusal that is true
    pub refused_kept : (seat : ℕ) (cause : Cause) (new : CourseState) → seat < 16 → (cause ≡ Bad → ⊥)
        → IsTrueNow site runner (with_history (board_at course) (course.history ++ Stop seat cause ∷ [])) cause
        → new ≡ with_events course (Stop seat cause ∷ []) → KeepsBoard new
    refused_kept seat cause new within other holds is = kept_more new (Stop seat cause) is (λ path. refl) (sound_stop site runner (board_at course) sound seat cause within other holds)

    -- a refusal that is true of a board is, as a cause, once it stopped by it
    pub site_true : (seat : ℕ) → IsTrueFault site runner given seat fault_by.Site
        → IsTrueNow site runner (with_history (board_at course) (course.history ++ Stop seat ByVisit ∷ [])) ByVisit
    site_true seat holds = subst (λ (b : BoardState S). IsTrueFault site runner b seat fault_by.Site) (sym view) holds

    pub large_true : (seat bytes : ℕ) → IsTrueFault site runner given seat (fault_by.TooLarge bytes)
        → IsTrueNow site runner (with_history (board_at course) (course.history ++ Stop seat (TooLarge bytes) ∷ [])) (TooLarge bytes)
    large_true seat bytes holds =
        cause_on site runner (board_at course) (Stop seat (TooLarge bytes)) (stop_quiet (plan_of (board_at course)) (state (board_at course)) seat (TooLarge bytes)) (TooLarge bytes)
        (subst (λ (b : BoardState S). IsTrueFault site runner b seat (fault_by.TooLarge bytes)) (sym view) holds)

    pub full_true : (seat : ℕ) → IsTrueFault site runner given seat fault_by.Full
        → IsTrueNow site runner (with_history (board_at course) (course.history ++ Stop seat Full ∷ [])) Full
    full_true seat holds = subst (λ (b : BoardState S). IsTrueFault site runner b seat fault_by.Full) (sym view) holds

    -- what callers see of two courses, and of the board after
    pub rest_seen : (new : CourseState) → KeepsBoard new → board_at new ≡ with_history given new.history
    rest_seen new kept = ap (λ (p : Plan). board_at (record new { plan = p })) kept.plan ∙ ap (λ (b : BoardState S). with_history b new.history) view

    pub course_after : (new : CourseState) → KeepsBoard new → new ≡ course_of (board_at new)
    course_after new kept = ap (λ f. record new { files = f }) kept.files

    pub both_seen : (P : CourseState → CourseState → Type 0) (new : CourseState) → KeepsBoard new → P course new → P (course_of given) (course_of (board_at new))
    both_seen P new kept it = subst (λ c. P c (course_of (board_at new))) course_is (subst (P course) (course_after new kept) it)

    -- ---- a claim
    pub claim_kept : (seat : ℕ) (result : Claimed) (new : CourseState) → seat < 16 → (state given).seats seat ≡ None → Claims seat course result new → KeepsBoard new
    claim_kept seat (Gives number) new within free claims =
        kept_more new (Claim seat number) claims.1 (λ path. refl)
        (sound_claim site runner (board_at course) sound seat number within (subst (λ (b : BoardState S). (state b).seats seat ≡ None) (sym view) free)
        (subst (λ (c : CourseState). IsFirstReadyOf c number) here claims.0))
      where
        IsFirstReadyOf : CourseState → ℕ → Type 0
        IsFirstReadyOf c n = IsFirstReady c.plan (now c) n
    claim_kept seat Wait new within free claims = kept_same new claims.3
    claim_kept seat Over new within free claims = kept_same new claims.1

    -- ---- a stop
    stopped_or_not : (runs : Option Running) (why : Option Cause) → ((runs ≡ None) × IsSome why) ⊎ ((runs ≡ None) × IsSome why → ⊥)
    stopped_or_not None None = inr (λ is. absurd (true≢false (sym is.1)))
    stopped_or_not None (Some cause) = inl (refl, refl)
    stopped_or_not (Some running) why = inr (λ is. none-some running (sym is.0))

    pub stop_kept : (seat : ℕ) (cause : Cause) (new : CourseState) → seat < 16 → (cause ≡ Run) ⊎ (cause ≡ Memory) → Stops seat cause course new → KeepsBoard new
    stop_kept seat cause new within why stops =
        ⊎_elim (λ stopped. kept_same new (stops.none stopped))
        (λ going. kept_more new (Stop seat cause) (stops.one going) (λ path. refl) (sound_stop site runner (board_at course) sound seat cause within (other_cause cause why) (holds why)))
        (stopped_or_not ((now course).seats seat) (now course).stopped)
      where
        TrueAfter : Cause → Type 0
        TrueAfter c =
            IsTrueNow site runner (with_history (board_at course) (course.history ++ Stop seat cause ∷ [])) c

        holds : (cause ≡ Run) ⊎ (cause ≡ Memory) → TrueAfter cause
        holds (inl is) = subst TrueAfter (sym is) tt
        holds (inr is) = subst TrueAfter (sym is) tt

    -- ---- the end of a command that was denied an ask
    never_good : (seat : ℕ) (was : WasDenied course seat) → was.verdict ≡ Good → ⊥
    never_good seat was =
        access-No course.plan.rules was.it.rule (length was.it.running.asks) was.text was.verdict
        (((all_counted course.plan course.files course.history run_here).each seat was.it.running was.it.runs.here).refusal was.it.rule (was.text, was.verdict) was.it.runs.placed was.denied)
      where
        run_here : IsRun course.plan (first course) course.history
        run_here = subst (λ (c : CourseState). IsRun c.plan (first c) c.history) (sym here) sound.run

    pub denied_kept : (seat : ℕ) (new : CourseState) → MeansDenied site runner given seat → EndsDenied seat course new → KeepsBoard new
    denied_kept seat new means ends = kept_more new (Finish seat ends.was.verdict []) ends.adds (end_leaves course.plan (now course) seat ends.was.verdict) more
      where
        was_here : WasDenied (course_of (board_at course)) seat
        was_here = record {
          it = record {
            running = ends.was.it.running;
            rule = ends.was.it.rule;
            runs = subst (λ (c : CourseState). Runs c.plan (now c) seat ends.was.it.running ends.was.it.rule) here ends.was.it.runs;
          };
          text = ends.was.text;
          verdict = ends.was.verdict;
          denied = ends.was.denied;
        }

        more : IsSound site runner (with_history (board_at course) (course.history ++ Finish seat ends.was.verdict [] ∷ []))
        more = sound_bad site runner (board_at course) sound seat was_here.it.running ends.was.verdict was_here.it.runs.here (never_good seat ends.was)
            (denied_can (course_of (board_at course)) seat was_here)
            (denied_honest site runner (board_at course) seat (subst (λ (b : BoardState S). MeansDenied site runner b seat) (sym view) means) was_here)
