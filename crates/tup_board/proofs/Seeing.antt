-- What one ask of a board comes to for the view of a seat.
use Rattle.std.proofs.Common.{◌≡◌, ◌≢◌, ℕ, true, List, [], ◌∷◌, ◌++◌, Option, None, Some, Result, Ok, Err, refl, sym, ap, ◌∙◌, subst, inl, inr}
use Rattle.std.specs.Prelude.{Contains, IfErr, IfOk, IsTrue, unwrap_or}
use Rattle.std.specs.FinMap as finite
use Rattle.std.specs.Option.{option_map}
use Rattle.std.proofs.lemmas.Bool.{false≢true, true≢false}
use Rattle.std.proofs.lemmas.List.{append-nil}
use Rattle.std.proofs.lemmas.Option.{same_Some}
use Rattle.std.proofs.lemmas.List.Elements.{All-cons, All-contains, All-nil}
use Rattle.tup_path.specs.Name.{Names, Content}
use Rattle.tup_stamp.specs.declared.Stamp.{Stamp}
use Rattle.tup_stamp.specs.Stamp.{stamp}
use Rattle.tup_site.specs.Known.{KnowsTree}
use Rattle.tup_site.specs.declared.site.Site.{Ghosts as Site}
use Rattle.tup_runner.specs.Next.{Asks}
use Rattle.tup_runner.specs.Refusal.{Refusal, refused as refused_of}
use Rattle.tup_runner.specs.declared.fault.ViewFailed.{ViewFailed}
use Rattle.tup_runner.specs.declared.fault.ViewFailed.TheVariants.{Denied, Fault, Memory}
use Rattle.tup_runner.specs.declared.step.Answer.{Answer}
use Rattle.tup_runner.specs.declared.step.Answer.TheVariants.{Content as Holds, Absent as Nothing}
use Rattle.tup_access.specs.declared.verdict.Verdict.{Verdict}
use Rattle.tup_core.specs.declared.event.Cause.{Cause}
use Rattle.tup_core.specs.declared.event.Cause.TheVariants as causes
use Rattle.tup_core.specs.declared.event.CoreEvent.{CoreEvent}
use Rattle.tup_core.specs.declared.event.CoreEvent.TheVariants.{Ask, Deny, Stop}
use Rattle.tup_core.specs.declared.running.Running.{Running}
use Rattle.tup_core.specs.Run.{claims}
use Rattle.tup_core.specs.Step.{State, after, asked, changed, refused}
use Rattle.tup_core.proofs.Changed.{changed_cases, changed_here}
use Rattle.tup_schedule.proofs.Courses.{end_more}
use Rattle.tup_rule_outputs.specs.declared.fault.BoardFault.{BoardFault}
use Rattle.tup_rule_outputs.specs.declared.fault.BoardFault.TheVariants as fault_by
use Rattle.tup_board.specs.Board.{BoardState, Opening, plan_of, seat_of, start, state}
use Rattle.tup_board.specs.declared.answers.Asked.{Asked}
use Rattle.tup_board.specs.declared.answers.Asked.TheVariants as reply_by
use Rattle.tup_board.specs.Calls.{AreKnown, Asks as AllAsked, IsStampOf}
use Rattle.tup_board.specs.CameLaws.{no_place}
use Rattle.tup_board.proofs.Known.{known_among}
use Rattle.tup_board.specs.Seat.{CameBy, IsFromSeat, KeepsSeat, answer_by, is_granted, refused_by, told_by}

-- what one seat runs changed
pub apart_from : (seats : ℕ → Option Running) (seat : ℕ) (what : Option Running) (other : ℕ) → other ≢ seat → changed seats seat what other ≡ seats other
apart_from seats seat what other differ =
    elim (changed_cases seats seat what other) [
      | inl here ↦ absurd (differ here.0)
      | inr apart ↦ apart.1
    ]

module _ {S : Type 0} (seat : ℕ) (old new : BoardState S) where
  -- one event was added
  pub state_more : (event : CoreEvent) → new.opening ≡ old.opening → new.history ≡ old.history ++ event ∷ [] → state new ≡ after (plan_of old) (state old) event
  state_more event same adds =
      ap (λ (o : Opening S). state (record new { opening = o })) same ∙ ap (λ (h : List CoreEvent). state (record old { history = h })) adds ∙ end_more (plan_of old) (start old) old.history event

  pub from_one : (event : CoreEvent) → new.opening ≡ old.opening → new.history ≡ old.history ++ event ∷ [] → seat_of event ≡ seat → claims (event ∷ []) ≡ []
      → ((other : ℕ) → other ≢ seat → (after (plan_of old) (state old) event).seats other ≡ (state old).seats other) → IsFromSeat seat old new
  from_one event same adds own none others = record {
    opening = same;
    events = event ∷ [];
    adds = adds;
    own = All-cons (λ (one : CoreEvent). seat_of one ≡ seat) event [] own (All-nil _);
    none_claimed = none;
    others = λ other differ. ap (λ (s : State). s.seats other) (state_more event same adds) ∙ others other differ;
  }

module _ {S : Type 0} (site : Site S) (seat : ℕ) (text : List ℕ) (old new : BoardState S) (known : IsTrue site.tells → site.known new.site ≡ site.known old.site) where
  -- one event was added, or none
  abbrev Adds : List CoreEvent → Type 0
  Adds events = new ≡ record old { history = old.history ++ events; site = new.site }

  -- its site failed at nothing
  abbrev SameCount : Type 0
  SameCount = site.faults new.site ≡ site.faults old.site

  opening_is : (events : List CoreEvent) → Adds events → new.opening ≡ old.opening
  opening_is events adds = ap (λ (b : BoardState S). b.opening) adds

  history_is : (events : List CoreEvent) → Adds events → new.history ≡ old.history ++ events
  history_is events adds = ap (λ (b : BoardState S). b.history) adds

  state_is : (event : CoreEvent) → Adds (event ∷ []) → state new ≡ after (plan_of old) (state old) event
  state_is event adds = state_more seat old new event (opening_is (event ∷ []) adds) (history_is (event ∷ []) adds)

  stopped_is : (event : CoreEvent) → Adds (event ∷ []) → (state new).stopped ≡ (after (plan_of old) (state old) event).stopped
  stopped_is event adds = ap (λ (s : State). s.stopped) (state_is event adds)

  seats_are : (event : CoreEvent) (at : ℕ) → Adds (event ∷ []) → (state new).seats at ≡ (after (plan_of old) (state old) event).seats at
  seats_are event at adds = ap (λ (s : State). s.seats at) (state_is event adds)

  same_state : Adds [] → state new ≡ state old
  same_state adds =
      ap (λ (o : Opening S). state (record new { opening = o })) (opening_is [] adds) ∙ ap (λ (h : List CoreEvent). state (record old { history = h })) (history_is [] adds ∙ append-nil old.history)

  from_event : (event : CoreEvent) → Adds (event ∷ []) → seat_of event ≡ seat → claims (event ∷ []) ≡ []
      → ((other : ℕ) → other ≢ seat → (after (plan_of old) (state old) event).seats other ≡ (state old).seats other) → IsFromSeat seat old new
  from_event event adds = from_one seat old new event (opening_is (event ∷ []) adds) (history_is (event ∷ []) adds)

  -- ---- an ask was answered
  module _ (given : Option Stamp) (answer : Answer) (stamps : IsStampOf given answer) (there : IsTrue site.tells → AreKnown (site.known new.site) ((text, answer) ∷ [])) (adds : Adds (Ask seat text given ∷ []))
      (same_count : SameCount) where
    answered_here : (state new).seats seat ≡ option_map (asked text given) ((state old).seats seat)
    answered_here = seats_are (Ask seat text given) seat adds ∙ changed_here (state old).seats seat (option_map (asked text given) ((state old).seats seat))

    came_answer : CameBy site seat old None ((text, answer) ∷ []) new None
    came_answer = record {
      keeps = record {
        from = from_event (Ask seat text given) adds refl refl (λ other differ. apart_from (state old).seats seat (option_map (asked text given) ((state old).seats seat)) other differ);
        known = known;
        stays = inl refl;
        going = λ fine. stopped_is (Ask seat text given) adds;
        left = λ failed fine. absurd (false≢true failed);
        never_run = λ run. sym (stopped_is (Ask seat text given) adds) ∙ run;
        steady = λ none other. same_count;
      };
      asked = λ fine running here. record {
        now = asked text given running;
        more = (text, given) ∷ [];
        runs = answered_here ∙ ap (option_map (asked text given)) here;
        same = refl;
        asked = refl;
        stamps = (refl, stamps, tt);
        known = there;
        denied = inl (refl, refl);
      };
    }

  still_granted : (given : Option Stamp) → Adds (Ask seat text given ∷ []) → is_granted ((state old).seats seat) ≡ true → is_granted ((state new).seats seat) ≡ true
  still_granted given adds granted =
      ap is_granted (seats_are (Ask seat text given) seat adds ∙ changed_here (state old).seats seat (option_map (asked text given) ((state old).seats seat)))
      ∙ same_granted ((state old).seats seat) ∙ granted
    where
      same_granted : (runs : Option Running) → is_granted (option_map (asked text given) runs) ≡ is_granted runs
      same_granted None = refl
      same_granted (Some running) = refl

  -- ---- it was denied
  came_denied : (verdict : Verdict) → Adds (Deny seat text verdict ∷ []) → SameCount → CameBy site seat old None [] new (Some (record { text = text; why = Denied }))
  came_denied verdict adds same_count = record {
    keeps = record {
      from = from_event (Deny seat text verdict) adds refl refl (λ other differ. apart_from (state old).seats seat (option_map (refused text verdict) ((state old).seats seat)) other differ);
      known = known;
      stays = inl refl;
      going = λ fine. stopped_is (Deny seat text verdict) adds;
      left = λ failed fine. absurd (false≢true failed);
      never_run = λ run. sym (stopped_is (Deny seat text verdict) adds) ∙ run;
      steady = λ none other. same_count;
    };
    asked = λ fine running here. record {
      now = refused text verdict running;
      more = [];
      runs = seats_are (Deny seat text verdict) seat adds ∙ changed_here (state old).seats seat (option_map (refused text verdict) ((state old).seats seat)) ∙ ap (option_map (refused text verdict)) here;
      same = refl;
      asked = sym (append-nil running.asks);
      stamps = tt;
      known = λ told t content within. no_place within.0 within.1;
      denied = inr (record { text = text; verdict = verdict; refused = refl; is = refl });
    };
  }

  -- ---- the files couldn't be reached: the seat stopped
  came_stopped : (cause : Cause) → cause ≢ causes.Run → Adds (Stop seat cause ∷ []) → (cause ≢ causes.Site → SameCount) → CameBy site seat old None [] new (Some (record { text = text; why = Fault }))
  came_stopped cause other adds same_count = record {
    keeps = record {
      from = from_event (Stop seat cause) adds refl refl (λ other differ. apart_from (state old).seats seat None other differ);
      known = known;
      stays = inl refl;
      going = λ fine. absurd (true≢false fine);
      left = λ failed fine. seats_are (Stop seat cause) seat adds ∙ changed_here (state old).seats seat None;
      never_run = λ run. not_for_run (state old).stopped (sym (stopped_is (Stop seat cause) adds) ∙ run);
      steady = λ none apart. same_count (λ is. apart (stopped_is (Stop seat cause) adds ∙ ap (λ (o : Option Cause). Some (unwrap_or o cause)) none ∙ ap Some is));
    };
    asked = λ fine running here. absurd (true≢false fine);
  }
    where
      not_for_run : (was : Option Cause) → Some (unwrap_or was cause) ≡ Some causes.Run → was ≡ Some causes.Run
      not_for_run None e = absurd (other (same_Some _ _ e))
      not_for_run (Some earlier) e = e

  -- ---- there was no memory: nothing happened
  came_nowhere : Adds [] → SameCount → CameBy site seat old None [] new None
  came_nowhere adds same_count = record {
    keeps = record {
      from = record {
        opening = opening_is [] adds;
        events = [];
        adds = history_is [] adds;
        own = All-nil _;
        none_claimed = refl;
        others = λ other differ. ap (λ (s : State). s.seats other) (same_state adds);
      };
      known = known;
      stays = inl refl;
      going = λ fine. ap (λ (s : State). s.stopped) (same_state adds);
      left = λ failed fine. absurd (false≢true failed);
      never_run = λ run. sym (ap (λ (s : State). s.stopped) (same_state adds)) ∙ run;
      steady = λ none other. same_count;
    };
    asked = λ fine running here. record {
      now = running;
      more = [];
      runs = ap (λ (s : State). s.seats seat) (same_state adds) ∙ here;
      same = refl;
      asked = sym (append-nil running.asks);
      stamps = tt;
      known = λ told t content within. no_place within.0 within.1;
      denied = inl (refl, refl);
    };
  }

-- ---- what is told is known to the site
same_holds : (one other : Content) → Holds one ≡ Holds other → one ≡ other
same_holds one other e = cc

pub one_known : (known : List Content) (text : List ℕ) (content : Content) → Contains known content → AreKnown known ((text, Holds content) ∷ [])
one_known known text content there t other within =
    All-contains (λ (ask : List ℕ × Answer). (d : Content) → ask.1 ≡ Holds d → Contains known d) ((text, Holds content) ∷ []) (t, Holds other)
    (All-cons (λ (ask : List ℕ × Answer). (d : Content) → ask.1 ≡ Holds d → Contains known d) (text, Holds content) [] (λ d e. subst (Contains known) (same_holds content d e) there) (All-nil _)) within other refl

pub none_known : (known : List Content) (text : List ℕ) → AreKnown known ((text, Nothing) ∷ [])
none_known known text t other within =
    All-contains (λ (ask : List ℕ × Answer). (d : Content) → ask.1 ≡ Holds d → Contains known d) ((text, Nothing) ∷ []) (t, Holds other)
    (All-cons (λ (ask : List ℕ × Answer). (d : Content) → ask.1 ≡ Holds d → Contains known d) (text, Nothing) [] (λ d e. absurd (nothing_held d e)) (All-nil _)) within other refl
  where
    nothing_held : (d : Content) → Nothing ≡ Holds d → ⊥
    nothing_held d e = cc

-- where the site tells, what it told stands at a path
pub told_known : {S : Type 0} (site : Site S) (old new : BoardState S) (text : List ℕ) (path : Names) (content : Content) → KnowsTree (site.known old.site) (site.world old.site).tree
    → finite.get (site.world old.site).tree path ≡ Some content → site.known new.site ≡ site.known old.site → AreKnown (site.known new.site) ((text, Holds content) ∷ [])
told_known site old new text path content knows_tree here same =
    one_known (site.known new.site) text content (subst (λ (known : List Content). Contains known content) (sym same) (known_among (site.known old.site) content (knows_tree path content here)))

-- what the view notes is what it refuses
pub refuses_by : (text : List ℕ) (result : Result Asked BoardFault) → refused_by text result ≡ refused_of text (answer_by result)
refuses_by text (Ok (reply_by.Content content)) = refl
refuses_by text (Ok reply_by.Absent) = refl
refuses_by text (Ok (reply_by.Denied verdict)) = refl
refuses_by text (Err fault_by.Site) = refl
refuses_by text (Err (fault_by.TooLarge bytes)) = refl
refuses_by text (Err fault_by.Full) = refl
refuses_by text (Err fault_by.Memory) = refl

-- ---- what an ask of a board is for the view of the seat, by the reply
module _ {S : Type 0} (site : Site S) (seat : ℕ) (text : List ℕ) (old new : BoardState S) where
  abbrev Replied : Result Asked BoardFault → Type 0
  Replied result = AllAsked site seat text old result new

  pub came_by : (result : Result Asked BoardFault) → (IsTrue site.tells → KnowsTree (site.known old.site) (site.world old.site).tree) → Replied result
      → CameBy site seat old None (told_by text result) new (refused_by text result)
  came_by (Ok (reply_by.Content content)) knows asks =
      came_answer site seat text old new asks.known (Some (stamp content)) (Holds content) refl
      (λ tells. told_known site old new text asks.for_it.0 content (knows tells) (asks.told tells asks.for_it.0 asks.for_it.1) (asks.known tells)) asks.asked.adds (asks.cause.steady (λ e. cc))
  came_by (Ok reply_by.Absent) knows asks = came_answer site seat text old new asks.known None Nothing refl (λ tells. none_known (site.known new.site) text) asks.asked.adds (asks.cause.steady (λ e. cc))
  came_by (Ok (reply_by.Denied verdict)) knows asks = came_denied site seat text old new asks.known verdict asks.asked.adds (asks.cause.steady (λ e. cc))
  came_by (Err fault_by.Site) knows asks = came_stopped site seat text old new asks.known causes.Site (λ e. cc) asks.asked.adds (λ apart. absurd (apart refl))
  came_by (Err (fault_by.TooLarge bytes)) knows asks = came_stopped site seat text old new asks.known (causes.TooLarge bytes) (λ e. cc) asks.asked.adds (λ apart. asks.cause.steady (λ e. cc))
  came_by (Err fault_by.Full) knows asks = came_stopped site seat text old new asks.known causes.Full (λ e. cc) asks.asked.adds (λ apart. asks.cause.steady (λ e. cc))
  came_by (Err fault_by.Memory) knows asks = came_nowhere site seat text old new asks.known asks.asked.adds (asks.cause.steady (λ e. cc))

  -- where nothing was refused its command may ask again
  pub granted_on : (result : Result Asked BoardFault) → Replied result → is_granted ((state old).seats seat) ≡ true → refused_by text result ≡ None → is_granted ((state new).seats seat) ≡ true
  granted_on (Ok (reply_by.Content content)) asks granted none = still_granted site seat text old new asks.known (Some (stamp content)) asks.asked.adds granted
  granted_on (Ok reply_by.Absent) asks granted none = still_granted site seat text old new asks.known None asks.asked.adds granted
  granted_on (Ok (reply_by.Denied verdict)) asks granted none = cc
  granted_on (Err fault_by.Site) asks granted none = cc
  granted_on (Err (fault_by.TooLarge bytes)) asks granted none = cc
  granted_on (Err fault_by.Full) asks granted none = cc
  granted_on (Err fault_by.Memory) asks granted none = ap (λ (s : State). is_granted (s.seats seat)) (same_state site seat text old new asks.known asks.asked.adds) ∙ granted

  -- the plan is the same one
  pub plan_on : (result : Result Asked BoardFault) → Replied result → plan_of new ≡ plan_of old
  plan_on result asks = ap (λ (b : BoardState S). plan_of b) asks.asked.adds

  -- ---- the same, as the view answers
  module _ (result : Result Asked BoardFault) (knows : IsTrue site.tells → KnowsTree (site.known old.site) (site.world old.site).tree) (asks : Replied result) (was is : Option Refusal) (none : was ≡ None)
      (noted : is ≡ refused_by text result) where
    came_seen : CameBy site seat old was (told_by text result) new is
    came_seen =
        subst (λ (w : Option Refusal). CameBy site seat old w (told_by text result) new is) (sym none)
        (subst (λ (i : Option Refusal). CameBy site seat old None (told_by text result) new i) (sym noted) (came_by result knows asks))

    pub seat_kept : KeepsSeat site seat old was new is
    seat_kept = came_seen.keeps

    abbrev CameSo : Asks → Type 0
    CameSo more = (seat ≡ seat) × CameBy site seat old was more new is

    pub came_ok : (answer : Result Answer ViewFailed) → answer ≡ answer_by result → IfOk answer (λ given. CameSo ((text, given) ∷ []))
    came_ok answer is_so = subst (λ (a : Result Answer ViewFailed). IfOk a (λ given. CameSo ((text, given) ∷ []))) (sym is_so) (by result (refl, came_seen))
      where
        by : (r : Result Asked BoardFault) → CameSo (told_by text r) → IfOk (answer_by r) (λ given. CameSo ((text, given) ∷ []))
        by (Ok (reply_by.Content content)) came = came
        by (Ok reply_by.Absent) came = came
        by (Ok (reply_by.Denied verdict)) came = tt
        by (Err fault_by.Site) came = tt
        by (Err (fault_by.TooLarge bytes)) came = tt
        by (Err fault_by.Full) came = tt
        by (Err fault_by.Memory) came = tt

    pub came_err : (answer : Result Answer ViewFailed) → answer ≡ answer_by result → IfErr answer (λ failed. failed ≢ Memory → CameSo [])
    came_err answer is_so = subst (λ (a : Result Answer ViewFailed). IfErr a (λ failed. failed ≢ Memory → CameSo [])) (sym is_so) (by result (refl, came_seen))
      where
        by : (r : Result Asked BoardFault) → CameSo (told_by text r) → IfErr (answer_by r) (λ failed. failed ≢ Memory → CameSo [])
        by (Ok (reply_by.Content content)) came = tt
        by (Ok reply_by.Absent) came = tt
        by (Ok (reply_by.Denied verdict)) came = λ other. came
        by (Err fault_by.Site) came = λ other. came
        by (Err (fault_by.TooLarge bytes)) came = λ other. came
        by (Err fault_by.Full) came = λ other. came
        by (Err fault_by.Memory) came = λ other. came

    pub refuses_so : (answer : Result Answer ViewFailed) → answer ≡ answer_by result → is ≡ refused_of text answer
    refuses_so answer is_so = noted ∙ refuses_by text result ∙ ap (refused_of text) (sym is_so)

    pub granted_so : is_granted ((state old).seats seat) ≡ true → is ≡ None → is_granted ((state new).seats seat) ≡ true
    granted_so granted nothing = granted_on result asks granted (sym noted ∙ nothing)
