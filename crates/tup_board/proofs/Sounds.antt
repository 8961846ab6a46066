-- What holds of a board holds once something more happened that leaves site and store: a claim, an ask, a bad end, a stop.
use Rattle.std.proofs.Common.{◌≡◌, ℕ, ◌<◌, Bool, true, List, [], ◌∷◌, ◌++◌, Option, None, Some, refl, sym, ap, ◌∙◌, subst, ⊎_elim, inl, inr}
use Rattle.std.specs.Prelude.{IsTrue, unwrap_or}
use Rattle.std.proofs.lemmas.List.{append_assoc}
use Rattle.std.proofs.lemmas.Option.{same_Some}
use Rattle.tup_path.specs.Name.{Names, Content}
use Rattle.tup_stamp.specs.declared.Stamp.{Stamp}
use Rattle.tup_rule.specs.declared.rule.Rule.{Rule}
use Rattle.tup_runner.specs.Next.{Next}
use Rattle.tup_site.specs.World.{World}
use Rattle.tup_site.specs.declared.site.Site.{Ghosts as Site}
use Rattle.tup_runner.specs.declared.runner.Runner.{Ghosts as Runner}
use Rattle.tup_access.specs.declared.verdict.Verdict.{Verdict}
use Rattle.tup_access.specs.declared.verdict.Verdict.TheVariants.{Good}
use Rattle.tup_record.specs.declared.run.RunRecord.{RunRecord}
use Rattle.tup_graph.specs.Graph.{GraphState}
use Rattle.tup_core.specs.declared.event.Cause.{Cause}
use Rattle.tup_core.specs.declared.event.Cause.TheVariants as causes
use Rattle.tup_core.specs.declared.event.Cause.TheVariants.{Bad}
use Rattle.tup_core.specs.declared.event.CoreEvent.{CoreEvent}
use Rattle.tup_core.specs.declared.event.CoreEvent.TheVariants.{Claim, Ask, Deny, Finish, Stop}
use Rattle.tup_core.specs.declared.plan.Plan.{Plan}
use Rattle.tup_core.specs.declared.running.Running.{Running}
use Rattle.tup_core.specs.Honest.{IsHonest, EndsHonestly}
use Rattle.tup_core.specs.Run.{end_of}
use Rattle.tup_core.specs.Step.{State, IsEnabled, after, emptied, ended}
use Rattle.tup_core.proofs.Changed.{changed_cases}
use Rattle.tup_core.proofs.Orderly.{finished_is}
use Rattle.tup_board.specs.Board.{BoardState, plan_of, start, state, with_history}
use Rattle.tup_board.specs.Come.{HasCome, HasComeTo}
use Rattle.tup_board.specs.Ends.{HasEnded, CouldEnd}
use Rattle.tup_board.specs.Images.{IsImageOver}
use Rattle.tup_board.specs.Outputs.{IsPending}
use Rattle.tup_board.specs.Sound.{IsSound, IsTrueNow}
use Rattle.tup_schedule.specs.Turn.{IsFirstReady}
use Rattle.tup_schedule.proofs.Courses.{end_more, run_more}
use Rattle.tup_schedule.proofs.Going.{bad_ended}

-- ---- honest histories

-- how one event is honest: an end is, and nothing is asked of others
abbrev pub IsHonestEvent : Next → List Content → Plan → State → CoreEvent → Type 0
IsHonestEvent next known plan before event = IsHonest next known plan before (event ∷ [])

pub honest_more : (next : Next) (known : List Content) (plan : Plan) (before : State) (events : List CoreEvent) (event : CoreEvent) → IsHonest next known plan before events
    → IsHonestEvent next known plan (end_of plan before events) event → IsHonest next known plan before (events ++ event ∷ [])
honest_more next known plan before [] event honest one = one
honest_more next known plan before (Claim seat rule ∷ events) event honest one = honest_more next known plan (after plan before (Claim seat rule)) events event honest one
honest_more next known plan before (Ask seat text answer ∷ events) event honest one = honest_more next known plan (after plan before (Ask seat text answer)) events event honest one
honest_more next known plan before (Deny seat text verdict ∷ events) event honest one = honest_more next known plan (after plan before (Deny seat text verdict)) events event honest one
honest_more next known plan before (Finish seat given written ∷ events) event honest one =
    (honest.0, honest_more next known plan (after plan before (Finish seat given written)) events event honest.1 one)
honest_more next known plan before (Stop seat cause ∷ events) event honest one = honest_more next known plan (after plan before (Stop seat cause)) events event honest one

-- ---- an event that leaves what is pending and the files, and no rule unclaimed again
pub record IsQuiet (plan : Plan) (before : State) (event : CoreEvent) : Type 0 where
  pub pending : (number : ℕ) → (after plan before event).pending number ≡ before.pending number
  pub claimed : (number : ℕ) → before.claimed number ≡ true → (after plan before event).claimed number ≡ true
  pub files : (path : Names) → (after plan before event).files path ≡ before.files path

module _ {S R : Type 0} (site : Site S) (runner : Runner R) (board : BoardState S) (event : CoreEvent) (quiet : IsQuiet (plan_of board) (state board) event) where
  -- the board with one more event
  abbrev next_board : BoardState S
  next_board = with_history board (board.history ++ event ∷ [])

  now_is : state next_board ≡ after (plan_of board) (state board) event
  now_is = end_more (plan_of board) (start board) board.history event

  pending_is : (number : ℕ) → (state next_board).pending number ≡ (state board).pending number
  pending_is number = ap (λ (s : State). s.pending number) now_is ∙ quiet.pending number

  claimed_on : (number : ℕ) → (state board).claimed number ≡ true → (state next_board).claimed number ≡ true
  claimed_on number was = ap (λ (s : State). s.claimed number) now_is ∙ quiet.claimed number was

  files_is : (path : Names) → (state next_board).files path ≡ (state board).files path
  files_is path = ap (λ (s : State). s.files path) now_is ∙ quiet.files path

  -- what ended in the history ended in the longer one, and what could have ended there too
  ended_on : (number : ℕ) (run : RunRecord) → HasEnded (plan_of board) (start board) board.history number run → HasEnded (plan_of board) (start board) (board.history ++ event ∷ []) number run
  ended_on number run ended = record {
    before = ended.before;
    after = ended.after ++ event ∷ [];
    seat = ended.seat;
    whole = ap (λ (events : List CoreEvent). events ++ event ∷ []) ended.whole ∙ append_assoc ended.before _ (event ∷ []);
    kept = ended.kept;
  }

  could_on : (number : ℕ) (run : RunRecord) (Told : Type 0) (Ends : Rule → Running → Option (List ℕ × Verdict) → Verdict → List (Names × Stamp) → Type 0)
      → CouldEnd (plan_of board) (start board) board.history number run Told Ends → CouldEnd (plan_of board) (start board) (board.history ++ event ∷ []) number run Told Ends
  could_on number run Told Ends could = record {
    before = could.before;
    after = could.after ++ event ∷ [];
    seat = could.seat;
    whole = ap (λ (events : List CoreEvent). events ++ event ∷ []) could.whole ∙ append_assoc could.before _ (event ∷ []);
    kept = could.kept;
    ended = could.ended;
  }

  -- a graph has come as far
  come_on : (g : GraphState) (number : ℕ) (rule : Rule) → HasCome board g number rule → HasCome next_board g number rule
  come_on g number rule (inl same) = inl same
  come_on g number rule (inr (inl begun)) = inr (inl (claimed_on number begun.0, begun.1))
  come_on g number rule (inr (inr ended)) = inr (inr (ended.0, ⊎_elim (λ one. inl (ended_on number ended.0 one)) inr ended.1, ended.2))

  come_to_on : (g : GraphState) → HasComeTo board g → HasComeTo next_board g
  come_to_on g come = record {
    beside = come.beside;
    each = λ number rule here. come_on g number rule (come.each number rule here);
    producers = come.producers;
  }

  image_on : (v w : World) (g : GraphState) → IsImageOver board v w g → IsImageOver next_board v w g
  image_on v w g image = record {
    store = image.store;
    come = come_to_on g image.come;
    others = λ path unclaimed. image.others path (λ claimed. unclaimed (claimed.0, claimed_on claimed.0 claimed.1, claimed.2));
    made = image.made;
    unmade = image.unmade;
  }

  pending_back : (path : Names) → IsPending (plan_of board) (state next_board) path → IsPending (plan_of board) (state board) path
  pending_back path pending = (pending.0, sym (pending_is pending.0) ∙ pending.1, pending.2)

  pending_on : (path : Names) → IsPending (plan_of board) (state board) path → IsPending (plan_of board) (state next_board) path
  pending_on path pending = (pending.0, pending_is pending.0 ∙ pending.1, pending.2)

  -- a cause that was true is
  pub cause_on : (cause : Cause) → IsTrueNow site runner board cause → IsTrueNow site runner next_board cause
  cause_on causes.Site it = it
  cause_on (causes.TooLarge bytes) it = (
    it.0,
    λ told. let large = it.1 told in record {
      path = large.path;
      content = large.content;
      here = large.here;
      long = large.long;
      stands = λ pending. large.stands (pending_back large.path pending);
    },
  )
  cause_on causes.Full it = λ told. let full = it told in (
    full.0,
    full.1,
    record {
      graph = full.2.graph;
      stands = full.2.stands;
      before = full.2.before;
      after = full.2.after ++ event ∷ [];
      seat = full.2.seat;
      number = full.2.number;
      run = full.2.run;
      whole = ap (λ (events : List CoreEvent). events ++ event ∷ []) full.2.whole ∙ append_assoc full.2.before _ (event ∷ []);
      kept = full.2.kept;
      full = full.2.full;
    },
  )
  cause_on causes.Bad it = it
  cause_on causes.Run it = it
  cause_on causes.Memory it = it

  pub sound_more : IsSound site runner board → IsEnabled (plan_of board) (state board) event
      → (IsTrue site.tells → IsTrue runner.tells → IsHonestEvent runner.next (site.known board.site) (plan_of board) (state board) event)
      → ((cause : Cause) → (state next_board).stopped ≡ Some cause → IsTrueNow site runner next_board cause)
      → IsSound site runner next_board
  sound_more sound enabled honest cause = record {
    opening = record { fresh = sound.opening.fresh; stands = sound.opening.stands; seen = sound.opening.seen; plan = sound.opening.plan; apart = sound.opening.apart };
    run = run_more (plan_of board) (start board) board.history event sound.run enabled;
    honest = λ told means. honest_more runner.next (site.known board.site) (plan_of board) (start board) board.history event (sound.honest told means) (honest told means);
    files = λ told path free. sound.files told path (λ pending. free (pending_on path pending)) ∙ sym (files_is path);
    fresh = sound.fresh;
    stands = sound.stands;
    present = λ none. let present = sound.present none in record { come = come_to_on board.graph.nodes present.come; flags = λ number. present.flags number ∙ sym (pending_is number) };
    lost = λ commit here. let was = sound.lost commit here in record {
      cause = was.cause;
      pending = pending_is commit.rule ∙ was.pending;
      run = λ run kept. could_on commit.rule run (IsTrue site.tells × IsTrue runner.tells) (EndsHonestly runner.next (site.known board.site)) (was.run run kept);
      torn = λ told w left. let image = was.torn told w left in (image.0, image.1, image.2, image_on image.0 w image.2 image.3, image.4, λ number on. pending_is number ∙ image.5 number on);
    };
    now = λ told. let image = sound.now told in (image.0, image_on _ _ image.0 image.1);
    images = λ told w left. let image = sound.images told w left in (image.0, image.1, image.2, image_on image.0 w image.2 image.3);
    since = λ told t w before left. ⊎_elim inl (λ image. inr (image.0, image.1, image.2, image_on image.0 w image.2 image.3)) (sound.since told t w before left);
    cause = cause;
    counted = sound.counted;
    later = sound.later;
    known = sound.known;
  }

  -- where the event doesn't stop
  pub cause_stays : IsSound site runner board → (after (plan_of board) (state board) event).stopped ≡ (state board).stopped → (cause : Cause) → (state next_board).stopped ≡ Some cause
      → IsTrueNow site runner next_board cause
  cause_stays sound same cause stopped =
      cause_on cause
      (sound.cause cause (sym same ∙ sym (ap (λ (s : State). s.stopped) now_is) ∙ stopped))

-- ---- which events are so
pub claim_quiet : (plan : Plan) (before : State) (seat rule : ℕ) → IsQuiet plan before (Claim seat rule)
claim_quiet plan before seat rule = record {
  pending = λ number. refl;
  claimed = λ number was. elim (changed_cases before.claimed rule true number) [ inl here ↦ here.1 | inr apart ↦ apart.1 ∙ was ];
  files = λ path. refl;
}

pub stop_quiet : (plan : Plan) (before : State) (seat : ℕ) (cause : Cause) → IsQuiet plan before (Stop seat cause)
stop_quiet plan before seat cause = record { pending = λ number. refl; claimed = λ number was. was; files = λ path. refl }

pub ask_quiet : (plan : Plan) (before : State) (seat : ℕ) (text : List ℕ) (answer : Option Stamp) → IsQuiet plan before (Ask seat text answer)
ask_quiet plan before seat text answer = record { pending = λ number. refl; claimed = λ number was. was; files = λ path. refl }

pub deny_quiet : (plan : Plan) (before : State) (seat : ℕ) (text : List ℕ) (verdict : Verdict) → IsQuiet plan before (Deny seat text verdict)
deny_quiet plan before seat text verdict = record { pending = λ number. refl; claimed = λ number was. was; files = λ path. refl }

pub bad_quiet : (plan : Plan) (before : State) (seat : ℕ) (running : Running) (given : Verdict) (written : List (Names × Stamp)) → before.seats seat ≡ Some running → (given ≡ Good → ⊥)
    → IsQuiet plan before (Finish seat given written)
bad_quiet plan before seat running given written here bad =
    let is = finished_is plan before seat running given written here ∙ bad_ended plan (emptied before seat) running.rule given written bad in
    record {
      pending = λ number. ap (λ (s : State). s.pending number) is;
      claimed = λ number was. ap (λ (s : State). s.claimed number) is ∙ was;
      files = λ path. ap (λ (s : State). s.files path) is;
    }

-- ---- a claim, and a stop
module _ {S R : Type 0} (site : Site S) (runner : Runner R) (board : BoardState S) (sound : IsSound site runner board) where
  pub sound_claim : (seat rule : ℕ) → seat < 16 → (state board).seats seat ≡ None → IsFirstReady (plan_of board) (state board) rule
      → IsSound site runner (with_history board (board.history ++ Claim seat rule ∷ []))
  sound_claim seat rule within free first =
      let quiet = claim_quiet (plan_of board) (state board) seat rule in
      sound_more site runner board (Claim seat rule) quiet sound (within, free, first.ready) (λ told means. tt) (cause_stays site runner board (Claim seat rule) quiet sound refl)

  pub sound_stop : (seat : ℕ) (cause : Cause) → seat < 16 → (cause ≡ Bad → ⊥)
      → IsTrueNow site runner (with_history board (board.history ++ Stop seat cause ∷ [])) cause
      → IsSound site runner (with_history board (board.history ++ Stop seat cause ∷ []))
  sound_stop seat cause within other holds =
      sound_more site runner board (Stop seat cause) (stop_quiet (plan_of board) (state board) seat cause) sound (within, other) (λ told means. tt) (λ c stopped. first_of (state board).stopped refl c (sym (ap (λ (s : State). s.stopped) last) ∙ stopped))
    where
      last : state (with_history board (board.history ++ Stop seat cause ∷ [])) ≡ after (plan_of board) (state board) (Stop seat cause)
      last = end_more (plan_of board) (start board) board.history (Stop seat cause)

      TrueNow : Cause → Type 0
      TrueNow c = IsTrueNow site runner (with_history board (board.history ++ Stop seat cause ∷ [])) c

      first_of : (was : Option Cause) → (state board).stopped ≡ was → (c : Cause) → Some (unwrap_or (state board).stopped cause) ≡ Some c → TrueNow c
      first_of None is c stopped = subst TrueNow (sym (ap (λ (o : Option Cause). unwrap_or o cause) is) ∙ same_Some _ _ stopped) holds
      first_of (Some earlier) is c stopped =
          subst TrueNow (sym (ap (λ (o : Option Cause). unwrap_or o cause) is) ∙ same_Some _ _ stopped)
          (cause_on site runner board (Stop seat cause) (stop_quiet (plan_of board) (state board) seat cause) earlier (sound.cause earlier is))
