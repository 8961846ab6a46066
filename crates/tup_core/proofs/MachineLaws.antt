-- A core and the state that it stands for: the opening, and what is ready.
use Rattle.std.proofs.Common.{◌≡◌, ◌↔◌, ℕ, zero, suc, ◌+◌, ◌<◌, ◌==◌, Bool, true, false, not, ◌&&◌, ◌||◌, take, List, length, replicate, get_or, Option, None, Some, refl, sym, ap, ◌∙◌, subst}
use Rattle.std.specs.Prelude.{if◌then◌else◌, IsTrue, slice_set, is_none}
use Rattle.std.specs.List.{list_any}
use Rattle.std.proofs.lemmas.Bool.{true≢false, not-true, and_parts, and_from, eq-eqb, eqb-true}
use Rattle.std.proofs.lemmas.List.{length-replicate, get_or_default}
use Rattle.std.proofs.lemmas.List.Folds.{list_any_at, list_any_more}
use Rattle.tup_path.specs.Name.{Names}
use Rattle.tup_stamp.specs.declared.Stamp.{Stamp}
use Rattle.tup_access.specs.declared.verdict.Verdict.{Verdict}
use Rattle.tup_access.specs.Inputs.{AreInputsOfAll}
use Rattle.tup_clean.proofs.Places.{some_place}
use Rattle.tup_core.specs.declared.event.Cause.{Cause}
use Rattle.tup_core.specs.declared.plan.Plan.{Plan}
use Rattle.tup_core.specs.declared.running.Running.{Running}
use Rattle.tup_core.specs.declared.machine.Core.{Core}
use Rattle.tup_core.specs.Step.{with_stamps, opening, is_reached, IsReady}
use Rattle.tup_core.specs.Sound.{IsInRange}
use Rattle.tup_core.specs.Links.{IsReachOf}
use Rattle.tup_core.specs.Waiting.{flag, number, IsWaiting}
use Rattle.tup_core.specs.Outputs.{AreOutputs}
use Rattle.tup_core.specs.Files.{stamp_in, HasRoomFor}
use Rattle.tup_core.specs.Machine.{entry, state_of, ready_test, IsSettled, IsCore}
use Rattle.tup_core.proofs.ItemLaws.{items_set, flag_within, flag_none}
use Rattle.tup_core.proofs.WaitingLaws.{clear_waits, waits_clear}

-- ---- what is ready

is_gone : (stopped : Option Cause) → is_none stopped ≡ true → stopped ≡ None
is_gone None e = refl
is_gone (Some cause) e = absurd (true≢false (sym e))

ready_by_test : (plan : Plan) (core : Core) (at : ℕ) → IsCore plan core → ready_test core at ≡ true → IsReady plan (state_of core) at
ready_by_test plan core at is passes =
    let last = and_parts (is_none core.stopped && flag core.pending.items at && not (flag core.claimed.items at)) (number core.waiting.waits.items at == 0) passes in
    let third = and_parts (is_none core.stopped && flag core.pending.items at) (not (flag core.claimed.items at)) last.0 in
    let first = and_parts (is_none core.stopped) (flag core.pending.items at) third.0 in
    let none : number core.waiting.waits.items at ≡ 0 = eqb-true (number core.waiting.waits.items at) 0 last.1 in
    let found = some_place plan.rules at (subst (λ (n : ℕ). at < n) is.pending (flag_within core.pending.items at first.1)) in
    record {
      pending = first.1;
      unclaimed = not-true (flag core.claimed.items at) third.1;
      going = is_gone core.stopped first.0;
      clear = (found.0, found.1, λ other produced. clear_waits plan.rules (is_reached plan) core.pending.items core.waiting is.waiting is.settled at other found.0 found.1 (is.reached at first.1) none produced);
    }

test_by_ready : (plan : Plan) (core : Core) (at : ℕ) → IsCore plan core → IsReady plan (state_of core) at → ready_test core at ≡ true
test_by_ready plan core at is ready =
    let none = waits_clear plan.rules (is_reached plan) core.pending.items core.waiting at ready.clear.0 is.waiting ready.clear.1 ready.clear.2 in
    let going : is_none core.stopped ≡ true = ap is_none ready.going in
    let unclaimed : not (flag core.claimed.items at) ≡ true = ap not ready.unclaimed in
    and_from _ _ (and_from _ _ (and_from _ _ going ready.pending) unclaimed) (eq-eqb (number core.waiting.waits.items at) 0 none)

-- whether a rule is ready, told by its flags and its count
pub ready_tells : (plan : Plan) (core : Core) (at : ℕ) (result : Bool) → IsCore plan core → result ≡ ready_test core at → IsTrue result ↔ IsReady plan (state_of core) at
ready_tells plan core at result is tests = (λ passes. ready_by_test plan core at is (sym tests ∙ passes), λ ready. tests ∙ test_by_ready plan core at is ready)

-- a ready rule waits for none, and is one of the plan's
pub ready_settled : (plan : Plan) (core : Core) (at : ℕ) → IsCore plan core → IsReady plan (state_of core) at → IsSettled plan core at
ready_settled plan core at is ready = (
  subst (λ (n : ℕ). at < n) is.pending (flag_within core.pending.items at ready.pending),
  waits_clear plan.rules (is_reached plan) core.pending.items core.waiting at ready.clear.0 is.waiting ready.clear.1 ready.clear.2,
  is.reached at ready.pending,
)

-- ---- the opening

pub entry_none : {A : Type 0} (count at : ℕ) → entry {A = A} (replicate count None) at ≡ None
entry_none zero at = refl
entry_none (suc count) zero = refl
entry_none (suc count) (suc at) = entry_none count at

length_none : (A : Type 0) (count : ℕ) → length {A = Option A} (replicate count None) ≡ count
length_none A zero = refl
length_none A (suc count) = ap suc (length_none A count)

-- what a core is made of at its opening
pub record IsOpening (plan : Plan) (files : List (Names × Stamp)) (core : Core) : Type 0 where
  pub long : length core.pending.items ≡ length plan.rules
  pub pending : (at : ℕ) → flag core.pending.items at ≡ is_reached plan at
  pub waiting : IsWaiting plan.rules (flag core.pending.items) core.pending.items core.waiting
  pub claimed : core.claimed.items ≡ replicate (length plan.rules) false
  pub seats : core.seats.items ≡ replicate 16 None
  pub bad : core.bad.items ≡ replicate (length plan.rules) None
  pub generated : AreOutputs plan.rules core.generated
  pub inputs : AreInputsOfAll plan.rules core.inputs.items
  pub files_in : (path : Names) → stamp_in core.files path ≡ with_stamps (λ _. None) files path
  pub room : HasRoomFor plan.rules (is_reached plan) core.files
  pub going : core.stopped ≡ None

pub opened_core : (plan : Plan) (files : List (Names × Stamp)) (core : Core) → IsOpening plan files core → IsCore plan core
opened_core plan files core made = record {
  pending = made.long;
  claimed = ap length made.claimed ∙ length-replicate (length plan.rules) false;
  bad = ap length made.bad ∙ length_none Verdict (length plan.rules);
  seats = ap length made.seats ∙ length_none Running 16;
  generated = made.generated;
  inputs = made.inputs;
  room = made.room;
  waiting = subst (λ (reached : ℕ → Bool). IsWaiting plan.rules reached core.pending.items core.waiting) (λ i at. made.pending at i) made.waiting;
  reached = λ at up. sym (made.pending at) ∙ up;
  settled = λ at reached down. absurd (true≢false (sym reached ∙ sym (made.pending at) ∙ down));
  running = λ seat running now. absurd (no_running (entry core.seats.items seat) running (ap (λ (seats : List (Option Running)). entry seats seat) made.seats ∙ entry_none 16 seat) now);
}
  where
    no_running : {A : Type 0} (here : Option A) (running : A) → here ≡ None → here ≡ Some running → ⊥
    no_running here running none some = cc

pub opened_state : (plan : Plan) (files : List (Names × Stamp)) (core : Core) → IsOpening plan files core → state_of core ≡ opening plan files
opened_state plan files core made = λ i. record {
  pending = λ at. made.pending at i;
  claimed = λ at. no_claim at i;
  seats = λ seat. (ap (λ (seats : List (Option Running)). entry seats seat) made.seats ∙ entry_none 16 seat) i;
  files = λ path. made.files_in path i;
  bad = λ at. (ap (λ (bad : List (Option Verdict)). entry bad at) made.bad ∙ entry_none (length plan.rules) at) i;
  stopped = made.going i;
}
  where
    no_claim : (at : ℕ) → flag core.claimed.items at ≡ false
    no_claim at = ap (λ (flags : List Bool). flag flags at) made.claimed ∙ flag_none (length plan.rules) at

-- flags that are up at the reach have the numbers of the reach
pub reach_of : (plan : Plan) (flags : List Bool) → IsInRange plan → ((at : ℕ) → flag flags at ≡ is_reached plan at) → IsReachOf plan.rules flags plan.reach
reach_of plan flags range are = record { places = range; all = λ at up. sym (are at) ∙ up }

-- one more number of the reach is marked
pub reached_more : (reach : List ℕ) (i item q : ℕ) (flags : List Bool) → i < length reach → item ≡ get_or reach i item → item < length flags → flag flags q ≡ list_any (λ number. q == number) (take i reach) →
    flag (slice_set flags item true) q ≡ list_any (λ number. q == number) (take (i + 1) reach)
reached_more reach i item q flags within is fits was =
    (λ k. items_set flags item true false fits k q) ∙ either (q == item) (flag flags q) ∙ ap (λ b. b || (q == item)) was ∙ ap (λ n. list_any (λ number. q == number) (take i reach) || (q == n)) is
    ∙ sym (list_any_more (λ number. q == number) reach i item within)
  where
    either : (b a : Bool) → (if b then true else a) ≡ (a || b)
    either true true = refl
    either true false = refl
    either false true = refl
    either false false = refl

-- each number of the reach is reached
pub in_reach : (plan : Plan) (i item : ℕ) → i < length plan.reach → item ≡ get_or plan.reach i item → is_reached plan item ≡ true
in_reach plan i item within is = list_any_at (λ number. item == number) plan.reach i item within (eq-eqb item (get_or plan.reach i item) is)

pub next_is : (plan : Plan) (list : List ℕ) (i : ℕ) → list ≡ plan.reach → i < length list → get_or list i 0 ≡ get_or plan.reach i (get_or list i 0)
next_is plan list i is less = get_or_default list i 0 (get_or list i 0) less ∙ ap (λ (l : List ℕ). get_or l i (get_or list i 0)) is

-- the next number of the reach is the place of a rule
pub next_reached : (plan : Plan) (list : List ℕ) (i : ℕ) → IsInRange plan → list ≡ plan.reach → i < length list → get_or list i 0 < length plan.rules
next_reached plan list i range is less = range (get_or list i 0) (in_reach plan i (get_or list i 0) (subst (λ (l : List ℕ). i < length l) is less) (next_is plan list i is less))

-- and is marked
pub next_marked : (plan : Plan) (list : List ℕ) (i : ℕ) (flags : List Bool) → IsInRange plan → list ≡ plan.reach → i < length list → length flags ≡ length plan.rules → ((at : ℕ) → flag flags at ≡ list_any (λ number. at == number) (take i plan.reach)) →
    (at : ℕ) → flag (slice_set flags (get_or list i 0) true) at ≡ list_any (λ number. at == number) (take (i + 1) plan.reach)
next_marked plan list i flags range is less long marked = λ at.
    reached_more plan.reach i (get_or list i 0) at flags (subst (λ (l : List ℕ). i < length l) is less) (next_is plan list i is less) (subst (λ (n : ℕ). get_or list i 0 < n) (sym long) (next_reached plan list i range is less)) (marked at)
