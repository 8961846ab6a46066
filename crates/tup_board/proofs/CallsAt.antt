-- What the calls of a board do at a seat, told by the entries of that seat.
use Rattle.std.proofs.Common.{◌≡◌, ℕ, ◌<◌, List, [], ◌∷◌, ◌++◌, length, map, Option, None, Some, Result, Ok, Err, refl, sym, ap, ◌∙◌, subst, inl, inr}
use Rattle.std.specs.Prelude.{Contains, IsSome, IsTrue, slice_get}
use Rattle.std.proofs.lemmas.Bool.{false≢true}
use Rattle.std.proofs.lemmas.List.{append-nil}
use Rattle.std.proofs.lemmas.Option.{none-some, same_Some, slice_get_within}
use Rattle.tup_path.specs.Name.{Names, Content}
use Rattle.tup_stamp.specs.declared.Stamp.{Stamp}
use Rattle.tup_stamp.specs.Stamp.{stamp}
use Rattle.tup_site.specs.Known.{KnowsTree}
use Rattle.tup_site.specs.declared.site.Site.{Ghosts as Site}
use Rattle.tup_rule.specs.declared.rule.Rule.{Rule}
use Rattle.tup_runner.specs.Next.{Asks}
use Rattle.tup_runner.specs.declared.runner.Runner.{Ghosts as Runner}
use Rattle.tup_runner.specs.declared.step.Ended.{Ended}
use Rattle.tup_access.specs.Judge.{judge}
use Rattle.tup_access.specs.declared.verdict.Verdict.{Verdict}
use Rattle.tup_core.specs.declared.event.Cause.{Cause}
use Rattle.tup_core.specs.declared.event.Cause.TheVariants as causes
use Rattle.tup_core.specs.declared.event.CoreEvent.{CoreEvent}
use Rattle.tup_core.specs.declared.event.CoreEvent.TheVariants.{Claim, Ask, Deny, Finish, Stop}
use Rattle.tup_core.specs.declared.plan.Plan.{Plan}
use Rattle.tup_core.specs.declared.running.Running.{Running}
use Rattle.tup_core.specs.Honest.{EndsHonestly, stamped}
use Rattle.tup_schedule.specs.Course.{Claims, CourseState, EndsDenied, GoesOn, RunsRule, Stops, WasDenied}
use Rattle.tup_schedule.specs.declared.claimed.Claimed.{Claimed}
use Rattle.tup_schedule.specs.declared.claimed.Claimed.TheVariants.{Rule as Gives, Wait, Over}
use Rattle.tup_rule_outputs.specs.declared.fault.BoardFault.{BoardFault}
use Rattle.tup_rule_outputs.specs.declared.fault.BoardFault.TheVariants as fault_by
use Rattle.tup_board.specs.declared.answers.Asked.{Asked}
use Rattle.tup_board.specs.declared.answers.Asked.TheVariants as reply_by
use Rattle.tup_board.specs.Board.{BoardState, course_of, plan_of, start, state}
use Rattle.tup_board.specs.Calls.{AreKnown, AsksFor, Finishes, HasAskedFor, IsAsked, IsJudgedAt, IsReportOf, IsToldOf, MeansDenied, ask_events}
use Rattle.tup_board.specs.Entries.{EndsBy, GoesOnBy, IsReportBy, StopsBy, WasDeniedBy, claim_entries, entries_at, runs_after}
use Rattle.tup_board.proofs.EntriesAt.{adds_none, adds_one, runs_are}
use Rattle.tup_board.proofs.Known.{known_among}

module _ {S : Type 0} (number : ℕ) (old : BoardState S) where
  abbrev entries : List CoreEvent
  entries = entries_at number old.history

  pub runs_old : runs_after None entries ≡ (state old).seats number
  runs_old = runs_are number (plan_of old) old.history (start old)

  -- nothing runs there, by the entries and by the board
  pub free_old : runs_after None entries ≡ None → (state old).seats number ≡ None
  free_old none = sym runs_old ∙ none

  -- ---- what runs there
  module _ (within : number < 16) (plan : Plan) (is : plan ≡ plan_of old) where
    abbrev runs_by : (running : Running) (rule : Rule) → runs_after None entries ≡ Some running → slice_get plan.rules running.rule ≡ Some rule → RunsRule (course_of old) number
    runs_by running rule runs placed = record {
      running = running;
      rule = rule;
      runs = record { within = within; here = sym runs_old ∙ runs; placed = ap (λ (p : Plan). slice_get p.rules running.rule) (sym is) ∙ placed };
    }

    abbrev pub goes_by : GoesOnBy plan entries → GoesOn (course_of old) number
    goes_by by = record { it = runs_by by.running by.rule by.runs by.placed; granted = by.granted }

    abbrev pub denied_by : WasDeniedBy plan entries → WasDenied (course_of old) number
    denied_by by = record { it = runs_by by.running by.rule by.runs by.placed; text = by.text; verdict = by.verdict; denied = by.denied }

    pub report_by : (site : Site S) (dir : Names) (text : List ℕ) (asks : Asks) → IsReportBy plan entries dir text asks → (IsTrue site.tells → AreKnown (site.known old.site) asks) → IsReportOf site old number dir text asks
    report_by site dir text asks by known = record { it = goes_by by.it; dir_is = by.dir_is; text_is = by.text_is; asks_are = by.asks_are; known = known }

    pub means_by : {R : Type 0} (site : Site S) (runner : Runner R) → WasDeniedBy plan entries
        → ((was : WasDeniedBy plan entries) → IsTrue site.tells → IsTrue runner.tells → EndsHonestly runner.next (site.known old.site) was.rule was.running (Some (was.text, was.verdict)) was.verdict [])
        → MeansDenied site runner old number
    means_by site runner by means = record { was = denied_by by; means = means by }

    -- what a board says that a seat runs is what its entries tell
    same_running : (it : RunsRule (course_of old) number) (running : Running) → runs_after None entries ≡ Some running → it.running ≡ running
    same_running it running runs = same_Some _ _ (sym it.runs.here ∙ sym runs_old ∙ runs)

    same_rule : (it : RunsRule (course_of old) number) (running : Running) (rule : Rule) → runs_after None entries ≡ Some running → slice_get plan.rules running.rule ≡ Some rule → it.rule ≡ rule
    same_rule it running rule runs placed =
        same_Some _ _
        (sym it.runs.placed ∙ ap (λ (r : Running). slice_get (plan_of old).rules r.rule) (same_running it running runs) ∙ ap (λ (p : Plan). slice_get p.rules running.rule) (sym is) ∙ placed)

    -- ---- the end of a command
    module _ (new : BoardState S) where
      abbrev entries_then : List CoreEvent
      entries_then = entries_at number new.history

      abbrev Adds : List CoreEvent → Type 0
      Adds added = entries_then ≡ entries ++ added

      ends_well : (by : GoesOnBy plan entries) (ended : Ended) (given : Verdict) (writes : List (Names × Stamp)) → IsJudgedAt old number ended given writes → new.history ≡ old.history ++ Finish number given writes ∷ []
          → (added : List CoreEvent) × Adds added × EndsBy plan entries number ended (Ok given) added
      ends_well by ended given writes judged adds =
          let same = same_rule judged.it by.running by.rule by.runs by.placed in
          let files = judged.writes_are ∙ ap (λ (r : Rule). map stamped (judge r ended).files) same in (
            Finish number given (map stamped (judge by.rule ended).files) ∷ [],
            adds_one number old.history new.history (Finish number given (map stamped (judge by.rule ended).files)) refl
                (adds ∙ ap (λ (w : List (Names × Stamp)). old.history ++ Finish number given w ∷ []) files),
            (by, judged.verdict_is ∙ ap (λ (r : Rule). (judge r ended).verdict) same, refl),
          )

      stops_so : (cause : Cause) → new.history ≡ old.history ++ Stop number cause ∷ [] → Adds (Stop number cause ∷ [])
      stops_so cause adds = adds_one number old.history new.history (Stop number cause) refl adds

      pub ends_by : (by : GoesOnBy plan entries) (ended : Ended) (result : Result Verdict BoardFault) → Finishes number ended old result new
          → (added : List CoreEvent) × Adds added × EndsBy plan entries number ended result added
      ends_by by ended (Ok given) fin = ends_well by ended given fin.0 fin.1 fin.2
      ends_by by ended (Err fault_by.Site) fin = (Stop number causes.Site ∷ [], stops_so causes.Site fin.0, refl)
      ends_by by ended (Err fault_by.Full) fin = (Stop number causes.Full ∷ [], stops_so causes.Full fin.0, refl)
      ends_by by ended (Err fault_by.Memory) fin = ([], adds_none number old.history new.history fin, refl)
      ends_by by ended (Err (fault_by.TooLarge bytes)) fin = absurd fin

      pub denied_adds : EndsDenied number (course_of old) (course_of new) → (was : WasDeniedBy plan entries) → Adds (Finish number was.verdict [] ∷ [])
      denied_adds ends was =
          let running = same_running ends.was.it was.running was.runs in
          let same = same_Some _ _ (sym ends.was.denied ∙ ap (λ (r : Running). r.denied) running ∙ was.denied) in
          adds_one number old.history new.history (Finish number was.verdict []) refl
          (ap (λ (c : CourseState). c.history) ends.adds ∙ ap (λ (d : List ℕ × Verdict). old.history ++ Finish number d.1 [] ∷ []) same)

  -- ---- what a call adds
  module _ (new : BoardState S) where
    pub claim_adds : (result : Claimed) → Claims number (course_of old) result (course_of new) → entries_at number new.history ≡ entries ++ claim_entries number result
    claim_adds (Gives rule) claims = adds_one number old.history new.history (Claim number rule) refl (ap (λ (c : CourseState). c.history) claims.1)
    claim_adds Wait claims = adds_none number old.history new.history (ap (λ (c : CourseState). c.history) claims.3)
    claim_adds Over claims = adds_none number old.history new.history (ap (λ (c : CourseState). c.history) claims.1)

    pub claims_within : (plan : Plan) → plan ≡ plan_of old → (result : Claimed) → Claims number (course_of old) result (course_of new) → (rule : ℕ) → result ≡ Gives rule → rule < length plan.rules
    claims_within plan is result claims rule gives =
        let first = (subst (λ (r : Claimed). Claims number (course_of old) r (course_of new)) gives claims).0 in
        subst (λ (p : Plan). rule < length p.rules) (sym is) (slice_get_within (plan_of old).rules rule first.ready.clear.0 first.ready.clear.1)

    pub ask_adds : (text : List ℕ) (result : Result Asked BoardFault) → IsAsked number text old result new → entries_at number new.history ≡ entries ++ ask_events number text result
    ask_adds text result asked = by result (ap (λ (b : BoardState S). b.history) asked.adds)
      where
        by : (r : Result Asked BoardFault) → new.history ≡ old.history ++ ask_events number text r → entries_at number new.history ≡ entries ++ ask_events number text r
        by (Ok (reply_by.Content content)) adds = adds_one number old.history new.history (Ask number text (Some (stamp content))) refl adds
        by (Ok reply_by.Absent) adds = adds_one number old.history new.history (Ask number text None) refl adds
        by (Ok (reply_by.Denied verdict)) adds = adds_one number old.history new.history (Deny number text verdict) refl adds
        by (Err fault_by.Site) adds = adds_one number old.history new.history (Stop number causes.Site) refl adds
        by (Err (fault_by.TooLarge bytes)) adds = adds_one number old.history new.history (Stop number (causes.TooLarge bytes)) refl adds
        by (Err fault_by.Full) adds = adds_one number old.history new.history (Stop number causes.Full) refl adds
        by (Err fault_by.Memory) adds = adds_none number old.history new.history (adds ∙ append-nil old.history)

    -- a content that is told is known to the site
    pub told_known : (site : Site S) (text : List ℕ) (result : Result Asked BoardFault) (content : Content) → KnowsTree (site.known old.site) (site.world old.site).tree → result ≡ Ok (reply_by.Content content)
        → HasAskedFor number text old result → ((path : Names) → AsksFor old number text path → IsToldOf (site.world old.site).tree path result) → site.known new.site ≡ site.known old.site
        → Contains (site.known new.site) content
    told_known site text result content knows is asked told same =
        let for_it = subst (HasAskedFor number text old) is asked in
        let here = subst (IsToldOf (site.world old.site).tree for_it.0) is (told for_it.0 for_it.1) in
        subst (λ (known : List Content). Contains known content) (sym same) (known_among (site.known old.site) content (knows for_it.0 content here))

    -- a stop
    pub stop_adds : (cause : Cause) → Stops number cause (course_of old) (course_of new) → (added : List CoreEvent) × (entries_at number new.history ≡ entries ++ added) × StopsBy entries number cause added
    stop_adds cause stops = by ((state old).seats number) (state old).stopped refl refl
      where
        one : ((((state old).seats number ≡ None) × IsSome (state old).stopped) → ⊥) → (added : List CoreEvent) × (entries_at number new.history ≡ entries ++ added) × StopsBy entries number cause added
        one going = (
          Stop number cause ∷ [],
          adds_one number old.history new.history (Stop number cause) refl (ap (λ (c : CourseState). c.history) (stops.one going)),
          inl refl,
        )

        by : (runs : Option Running) (why : Option Cause) → (state old).seats number ≡ runs → (state old).stopped ≡ why
            → (added : List CoreEvent) × (entries_at number new.history ≡ entries ++ added) × StopsBy entries number cause added
        by (Some running) why runs is = one (λ both. none-some running (sym both.0 ∙ runs))
        by None None runs is = one (λ both. false≢true (subst (λ (o : Option Cause). IsSome o) is both.1))
        by None (Some first) runs is = (
          [],
          adds_none number old.history new.history (ap (λ (c : CourseState). c.history) (stops.none (runs, subst (λ (o : Option Cause). IsSome o) (sym is) refl))),
          inr (runs_old ∙ runs, refl),
        )
