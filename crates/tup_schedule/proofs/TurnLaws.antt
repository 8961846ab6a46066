-- Which rules may be claimed: in a core, once one is claimed, and once one is done.
use Rattle.std.proofs.Common.{◌≡◌, ◌↔◌, ℕ, zero, suc, ◌+◌, ◌<◌, ◌≤◌, ◌^◌, ◌⊎◌, ◌==◌, Bool, true, false, not, ◌&&◌, ◌||◌, List, [], ◌∷◌, Option, None, Some, length, get_or, take, refl, sym, ap, ◌∙◌, subst, inl, inr, arith}
use Rattle.std.specs.List.{list_any}
use Rattle.std.specs.Prelude.{if◌then◌else◌, IsTrue, is_some, slice_get}
use Rattle.std.proofs.lemmas.Bool.{true≢false, cases_Bool, cases_lt, not-true, and_parts, and_from, eq-eqb, eqb-true}
use Rattle.std.proofs.lemmas.List.{take_all}
use Rattle.std.proofs.lemmas.List.Folds.{list_any_more}
use Rattle.std.proofs.lemmas.Option.{slice_get_within}
use Rattle.tup_rule.specs.declared.rule.Rule.{Rule}
use Rattle.tup_rule.specs.Producer.{MakesFor, DeclaredProducer, ProducerOver}
use Rattle.tup_rule.proofs.Laws.{producer-trans}
use Rattle.tup_clean.specs.Queue.{count_of}
use Rattle.tup_clean.proofs.Counting.{one_if-same, one_if-other, count_of-take}
use Rattle.tup_clean.proofs.Places.{some_place}
use Rattle.tup_core.specs.declared.event.Cause.{Cause}
use Rattle.tup_core.specs.declared.machine.Core.{Core}
use Rattle.tup_schedule.specs.declared.marks.Marks.{Marks}
use Rattle.tup_core.specs.declared.plan.Plan.{Plan}
use Rattle.tup_schedule.specs.declared.turn.Turn.{Turn}
use Rattle.tup_core.specs.Machine.{state_of, IsCore}
use Rattle.tup_core.specs.Reading.{open_test, pass_test}
use Rattle.tup_schedule.specs.Marks.{IsMarks, IsFirstMark, is_marked}
use Rattle.tup_core.specs.Step.{State, IsClear, IsReady, is_reached, changed}
use Rattle.tup_schedule.specs.Turn.{IsOpen, IsFirstReady, IsTurn, IsBeside, IsTold, IsSettledIn, Frees, Takes, IsSameTurn}
use Rattle.tup_core.specs.Waiting.{flag, number, times, ProducerBeside}
use Rattle.tup_core.proofs.Changed.{changed_cases}
use Rattle.tup_core.proofs.ItemLaws.{flag_within}
use Rattle.tup_core.proofs.WaitingLaws.{clear_waits, waits_clear}

-- ---- an open rule of a core is told by its flags and its count
open_by_test : (plan : Plan) (core : Core) (at : ℕ) → IsCore plan core → open_test core at ≡ true → IsOpen plan (state_of core) at
open_by_test plan core at is passes =
    let last = and_parts (flag core.pending.items at && not (flag core.claimed.items at)) (number core.waiting.waits.items at == 0) passes in
    let both = and_parts (flag core.pending.items at) (not (flag core.claimed.items at)) last.0 in
    let none : number core.waiting.waits.items at ≡ 0 = eqb-true (number core.waiting.waits.items at) 0 last.1 in
    let found = some_place plan.rules at (subst (λ (n : ℕ). at < n) is.pending (flag_within core.pending.items at both.0)) in
    record {
      pending = both.0;
      unclaimed = not-true (flag core.claimed.items at) both.1;
      clear = (found.0, found.1, λ other produced. clear_waits plan.rules (is_reached plan) core.pending.items core.waiting is.waiting is.settled at other found.0 found.1 (is.reached at both.0) none produced);
    }

test_by_open : (plan : Plan) (core : Core) (at : ℕ) → IsCore plan core → IsOpen plan (state_of core) at → open_test core at ≡ true
test_by_open plan core at is opened =
    let none = waits_clear plan.rules (is_reached plan) core.pending.items core.waiting at opened.clear.0 is.waiting opened.clear.1 opened.clear.2 in
    let unclaimed : not (flag core.claimed.items at) ≡ true = ap not opened.unclaimed in
    and_from _ _ (and_from _ _ opened.pending unclaimed) (eq-eqb (number core.waiting.waits.items at) 0 none)

-- a rule that is open is one of the plan
pub open_within : (plan : Plan) (state : State) (at : ℕ) → IsOpen plan state at → at < length plan.rules
open_within plan state at opened = slice_get_within plan.rules at opened.clear.0 opened.clear.1

pub open_place : (plan : Plan) (core : Core) (at : ℕ) → IsCore plan core → open_test core at ≡ true → at < length plan.rules
open_place plan core at is passes = open_within plan (state_of core) at (open_by_test plan core at is passes)

-- ---- the marks of a core
pub turn_of : (plan : Plan) (core : Core) (marks : Marks) → IsCore plan core → IsMarks marks → length plan.rules ≤ marks.places → length plan.rules ≤ 2 ^ 32
    → ((at : ℕ) → is_marked marks at ≡ (is_reached plan at && open_test core at)) → IsTurn plan (state_of core) (record { marks = marks })
turn_of plan core marks is kept places few set = record {
  marks = kept;
  places = places;
  few = few;
  each = λ at. (
    λ marked. open_by_test plan core at is (and_parts (is_reached plan at) (open_test core at) (sym (set at) ∙ marked)).1,
    λ opened. set at ∙ and_from _ _ (is.reached at opened.pending) (test_by_open plan core at is opened),
  );
}

-- ---- what is open, if what is pending and claimed is the same
same_open : (plan : Plan) (before after : State) (at : ℕ) → IsSameTurn before after → IsOpen plan before at → IsOpen plan after at
same_open plan before after at same opened = record {
  pending = same.pending at ∙ opened.pending;
  unclaimed = same.claimed at ∙ opened.unclaimed;
  clear = (opened.clear.0, opened.clear.1, λ other produced. same.pending other ∙ opened.clear.2 other produced);
}

back : (before after : State) → IsSameTurn before after → IsSameTurn after before
back before after same = record { pending = λ at. sym (same.pending at); claimed = λ at. sym (same.claimed at) }

pub turn_stays : (plan : Plan) (before after : State) (turn : Turn) → IsSameTurn before after → IsTurn plan before turn → IsTurn plan after turn
turn_stays plan before after turn same is = record {
  marks = is.marks;
  places = is.places;
  few = is.few;
  each = λ at. (λ marked. same_open plan before after at same ((is.each at).0 marked), λ opened. (is.each at).1 (same_open plan after before at (back before after same) opened));
}

-- ---- a rule is claimed
one_or_other : (at place : ℕ) → ((at ≡ place) × ((at == place) ≡ true)) ⊎ ((at ≡ place → ⊥) × ((at == place) ≡ false))
one_or_other at place = split (at == place) refl
  where
    split : (b : Bool) → (at == place) ≡ b → ((at ≡ place) × ((at == place) ≡ true)) ⊎ ((at ≡ place → ⊥) × ((at == place) ≡ false))
    split true e = inl (eqb-true at place e, e)
    split false e = inr ((λ same. true≢false (sym (eq-eqb at place same) ∙ e)), e)

pub turn_claims : (plan : Plan) (before after : State) (rule : ℕ) (old new : Turn) → IsTurn plan before old → Takes before rule after → IsMarks new.marks → new.marks.places ≡ old.marks.places
    → ((at : ℕ) → is_marked new.marks at ≡ (if at == rule then false else is_marked old.marks at)) → IsTurn plan after new
turn_claims plan before after rule old new is takes kept places set = record {
  marks = kept;
  places = subst (λ (n : ℕ). length plan.rules ≤ n) (sym places) is.places;
  few = is.few;
  each = λ at. each at (one_or_other at rule) (changed_cases before.claimed rule true at);
}
  where
    each : (at : ℕ) → ((at ≡ rule) × ((at == rule) ≡ true)) ⊎ ((at ≡ rule → ⊥) × ((at == rule) ≡ false))
        → ((at ≡ rule) × (changed before.claimed rule true at ≡ true)) ⊎ ((at ≡ rule → ⊥) × (changed before.claimed rule true at ≡ before.claimed at))
        → IsTrue (is_marked new.marks at) ↔ IsOpen plan after at
    each at (inl same) was = (
      λ marked. absurd (true≢false (sym marked ∙ set at ∙ ap (λ (b : Bool). if b then false else is_marked old.marks at) same.1)),
      λ opened. absurd (true≢false (sym (claimed_now at same.0 was) ∙ opened.unclaimed)),
    )
      where
        claimed_now : (n : ℕ) → n ≡ rule → ((n ≡ rule) × (changed before.claimed rule true n ≡ true)) ⊎ ((n ≡ rule → ⊥) × (changed before.claimed rule true n ≡ before.claimed n)) → after.claimed n ≡ true
        claimed_now n here (inl one) = takes.claimed n ∙ one.1
        claimed_now n here (inr other) = absurd (other.0 here)
    each at (inr apart) (inl one) = absurd (apart.0 one.0)
    each at (inr apart) (inr other) =
        let unmarked = set at ∙ ap (λ (b : Bool). if b then false else is_marked old.marks at) apart.1 in (
          λ marked. let opened = (is.each at).0 (sym unmarked ∙ marked) in record {
            pending = takes.pending at ∙ opened.pending;
            unclaimed = takes.claimed at ∙ other.1 ∙ opened.unclaimed;
            clear = (opened.clear.0, opened.clear.1, λ producer produced. takes.pending producer ∙ opened.clear.2 producer produced);
          },
          λ opened. unmarked ∙ (is.each at).1 (record {
            pending = sym (takes.pending at) ∙ opened.pending;
            unclaimed = sym other.1 ∙ sym (takes.claimed at) ∙ opened.unclaimed;
            clear = (opened.clear.0, opened.clear.1, λ producer produced. sym (takes.pending producer) ∙ opened.clear.2 producer produced);
          }),
        )

-- ---- a rule is done: those that waited for it alone stand in its list

-- what a rule that is clear waits for is clear
clear_behind : (plan : Plan) (state : State) (rule other : Rule) (next : ℕ) → IsClear plan state rule → MakesFor plan.rules rule next → slice_get plan.rules next ≡ Some other → IsClear plan state other
clear_behind plan state rule other next clear makes here = λ q produced. clear q (suc produced.0, (next, other, makes, here, produced.1))

-- a rule is behind one that is done: it declares what that makes, or one of that list which isn't reached leads to it
abbrev IsBehindDone : Plan → Core → ℕ → Rule → Type 0
IsBehindDone plan core done rule =
    MakesFor plan.rules rule done
    ⊎ ((entry : ℕ) × (between : ℕ) × (is_reached plan entry ≡ false) × (0 < times core.waiting.waiters.items done entry) × ProducerBeside between plan.rules (is_reached plan) rule entry)

-- over one more rule that isn't reached
behind_on : (plan : Plan) (core : Core) (done next : ℕ) (rule other : Rule) → IsCore plan core → is_reached plan done ≡ true → MakesFor plan.rules rule next → slice_get plan.rules next ≡ Some other → is_reached plan next ≡ false
    → IsBehindDone plan core done other → IsBehindDone plan core done rule
behind_on plan core done next rule other is reached makes here outside (inl first) = inr (next, zero, outside, is.waiting.first done next other reached here first, makes)
behind_on plan core done next rule other is reached makes here outside (inr behind) = inr (behind.0, suc behind.1, behind.2, behind.3, (next, other, makes, here, outside, behind.4))

-- a rule that is clear, and waited for what is done
waits_for : (plan : Plan) (before : State) (core : Core) (done : ℕ) → IsCore plan core → Frees plan before done (state_of core) → before.pending done ≡ true
    → (between : ℕ) (rule : Rule) → IsClear plan (state_of core) rule → ProducerOver between plan.rules rule done → IsBehindDone plan core done rule
waits_for plan before core done is frees was zero rule clear makes = inl makes
waits_for plan before core done is frees was (suc between) rule clear (next, other, makes, here, rest) =
    let further = waits_for plan before core done is frees was between other (clear_behind plan (state_of core) rule other next clear makes here) rest in
    elim (cases_Bool (is_reached plan next)) [
      | inr outside ↦ behind_on plan core done next rule other is (frees.reached was) makes here outside further
      | inl reached ↦ elim (changed_cases before.pending done false next) [
        | inl one ↦ inl (subst (λ (n : ℕ). MakesFor plan.rules rule n) one.0 makes)
        | inr apart ↦ absurd (true≢false (sym was ∙ frees.settled next other reached (sym apart.1 ∙ sym (frees.pending next) ∙ clear next (zero, makes)) here done (between, rest)))
      ]
    ]

-- what leads to a rule over others is a declared producer of it
beside_over : (rules : List Rule) (reached : ℕ → Bool) (between at : ℕ) (rule : Rule) → ProducerBeside between rules reached rule at → ProducerOver between rules rule at
beside_over rules reached zero at rule makes = makes
beside_over rules reached (suc between) at rule (next, other, makes, here, outside, rest) = (next, other, makes, here, beside_over rules reached between at other rest)

-- and waits for none, if the rule is clear: so it passes on
passes : (plan : Plan) (core : Core) (done entry between : ℕ) (rule : Rule) → IsCore plan core → IsClear plan (state_of core) rule → is_reached plan entry ≡ false → 0 < times core.waiting.waiters.items done entry
    → ProducerBeside between plan.rules (is_reached plan) rule entry → pass_test core entry ≡ true
passes plan core done entry between rule is clear outside listed beside =
    let led = is.waiting.led done entry listed in
    let none = waits_clear plan.rules (is_reached plan) core.pending.items core.waiting entry led.0 is.waiting led.1
    (λ other produced. clear other (producer-trans plan.rules rule led.0 entry other (between, beside_over plan.rules (is_reached plan) between entry rule beside) led.1 produced)) in
    and_from (not (flag core.pending.items entry)) (number core.waiting.waits.items entry == 0) (idle (flag core.pending.items entry) refl) (eq-eqb (number core.waiting.waits.items entry) 0 none)
  where
    idle : (b : Bool) → flag core.pending.items entry ≡ b → not b ≡ true
    idle false down = refl
    idle true up = absurd (true≢false (sym (is.reached entry up) ∙ outside))

-- what was open stays so, the rule itself aside
stays_open : (plan : Plan) (before : State) (core : Core) (done at : ℕ) → Frees plan before done (state_of core) → (at ≡ done → ⊥) → IsOpen plan before at → IsOpen plan (state_of core) at
stays_open plan before core done at frees apart opened = record {
  pending = elim (changed_cases before.pending done false at) [ inl one ↦ absurd (apart one.0) | inr other ↦ frees.pending at ∙ other.1 ∙ opened.pending ];
  unclaimed = frees.claimed at ∙ opened.unclaimed;
  clear = (
    opened.clear.0,
    opened.clear.1,
    λ producer produced. elim (changed_cases before.pending done false producer) [
      | inl one ↦ frees.pending producer ∙ one.1
      | inr other ↦ frees.pending producer ∙ other.1 ∙ opened.clear.2 producer produced
    ],
  );
}

-- and what is open and beside the list was so
was_open : (plan : Plan) (before : State) (core : Core) (done at : ℕ) (places : List ℕ) → IsCore plan core → Frees plan before done (state_of core) → ((other : ℕ) → count_of other places ≡ times core.waiting.waiters.items done other)
    → IsBeside core places at → IsOpen plan (state_of core) at → IsOpen plan before at
was_open plan before core done at places is frees counts beside opened = record {
  pending = elim (changed_cases before.pending done false at) [
    | inl one ↦ absurd (true≢false (sym opened.pending ∙ frees.pending at ∙ one.1))
    | inr other ↦ sym other.1 ∙ sym (frees.pending at) ∙ opened.pending
  ];
  unclaimed = sym (frees.claimed at) ∙ opened.unclaimed;
  clear = (opened.clear.0, opened.clear.1, λ producer produced. unpending producer produced (before.pending producer) refl (changed_cases before.pending done false producer));
}
  where
    -- it isn't behind what is done
    not_behind : before.pending done ≡ true → IsBehindDone plan core done opened.clear.0 → ⊥
    not_behind was (inl makes) =
        let some = is.waiting.first done at opened.clear.0 (frees.reached was) opened.clear.1 makes in
        let none = beside.0 in
        let same = counts at in
        omega (arith, some, none, same)
    not_behind was (inr one) =
        let some = is.waiting.behind done one.0 one.1 at opened.clear.0 (frees.reached was) one.3 one.2 opened.clear.1 one.4 (is.reached at opened.pending) in
        let listed : 0 < count_of one.0 places = subst (λ (n : ℕ). 0 < n) (sym (counts one.0)) one.3 in
        let none = beside.1 one.0 listed (passes plan core done one.0 one.1 opened.clear.0 is opened.clear.2 one.2 one.3 one.4) in
        omega (arith, some, none)

    unpending : (producer : ℕ) → DeclaredProducer plan.rules opened.clear.0 producer → (b : Bool) → before.pending producer ≡ b
        → ((producer ≡ done) × (changed before.pending done false producer ≡ false)) ⊎ ((producer ≡ done → ⊥) × (changed before.pending done false producer ≡ before.pending producer))
        → before.pending producer ≡ false
    unpending producer produced false was cases = was
    unpending producer produced true was (inr other) = sym other.1 ∙ sym (frees.pending producer) ∙ opened.clear.2 producer produced
    unpending producer produced true was (inl one) =
        let still : before.pending done ≡ true = ap before.pending (sym one.0) ∙ was in
        absurd (not_behind still (waits_for plan before core done is frees still produced.0 opened.clear.0 opened.clear.2 (subst (λ (n : ℕ). ProducerOver produced.0 plan.rules opened.clear.0 n) one.0 produced.1)))

pub turn_frees : (plan : Plan) (before : State) (core : Core) (done : ℕ) (places : List ℕ) (old middle new : Turn) → IsCore plan core → IsTurn plan before old → Frees plan before done (state_of core)
    → ((at : ℕ) → count_of at places ≡ times core.waiting.waiters.items done at) → IsMarks new.marks → new.marks.places ≡ old.marks.places
    → ((at : ℕ) → is_marked middle.marks at ≡ (if at == done then false else is_marked old.marks at)) → ((at : ℕ) → IsTold core places middle.marks new.marks at)
    → IsTurn plan (state_of core) new
turn_frees plan before core done places old middle new is turn frees counts kept same set told = record {
  marks = kept;
  places = subst (λ (n : ℕ). length plan.rules ≤ n) (sym same) turn.places;
  few = turn.few;
  each = λ at. each at (told at) (one_or_other at done);
}
  where
    each : (at : ℕ) → IsTold core places middle.marks new.marks at → ((at ≡ done) × ((at == done) ≡ true)) ⊎ ((at ≡ done → ⊥) × ((at == done) ≡ false)) → IsTrue (is_marked new.marks at) ↔ IsOpen plan (state_of core) at
    each at (inl tested) which = (λ marked. open_by_test plan core at is (sym tested ∙ marked), λ opened. tested ∙ test_by_open plan core at is opened)
    each at (inr beside) (inl one) =
        let unmarked = beside.1 ∙ set at ∙ ap (λ (b : Bool). if b then false else is_marked old.marks at) one.1 in (
          λ marked. absurd (true≢false (sym marked ∙ unmarked)),
          λ opened. absurd (true≢false (sym opened.pending ∙ gone at one.0)),
        )
      where
        gone : (n : ℕ) → n ≡ done → (state_of core).pending n ≡ false
        gone n here = elim (changed_cases before.pending done false n) [ inl it ↦ frees.pending n ∙ it.1 | inr other ↦ absurd (other.0 here) ]
    each at (inr beside) (inr apart) =
        let as_before = beside.1 ∙ set at ∙ ap (λ (b : Bool). if b then false else is_marked old.marks at) apart.1 in (
          λ marked. stays_open plan before core done at frees apart.0 ((turn.each at).0 (sym as_before ∙ marked)),
          λ opened. as_before ∙ (turn.each at).1 (was_open plan before core done at places is frees counts beside.0 opened),
        )

-- ---- the first rule that is ready
pub first_of : (plan : Plan) (state : State) (turn : Turn) (at : ℕ) → IsTurn plan state turn → state.stopped ≡ None → IsFirstMark turn.marks at → IsFirstReady plan state at
first_of plan state turn at is going first =
    let opened = (is.each at).0 first.marked in
    record {
      ready = record { pending = opened.pending; unclaimed = opened.unclaimed; going = going; clear = opened.clear };
      first = λ before less ready. true≢false (sym ((is.each before).1 (record { pending = ready.pending; unclaimed = ready.unclaimed; clear = ready.clear })) ∙ first.first before less);
    }

pub none_of : (plan : Plan) (state : State) (turn : Turn) → IsTurn plan state turn → ((at : ℕ) → is_marked turn.marks at ≡ false) → (at : ℕ) → IsReady plan state at → ⊥
none_of plan state turn is none at ready = true≢false (sym ((is.each at).1 (record { pending = ready.pending; unclaimed = ready.unclaimed; clear = ready.clear })) ∙ none at)

-- none is ready where all is stopped
pub stopped_none : (plan : Plan) (state : State) (found : Option Cause) → found ≡ state.stopped → is_some found ≡ true → (at : ℕ) → IsReady plan state at → ⊥
stopped_none plan state found is some at ready = go found (is ∙ ready.going) some
  where
    go : (cause : Option Cause) → cause ≡ None → is_some cause ≡ true → ⊥
    go None none up = true≢false (sym up)
    go (Some cause) none up = cc

-- ---- the rules that wait for one
pub waiters_here : (plan : Plan) (core : Core) (rule : ℕ) → IsCore plan core → rule < length plan.rules → rule < length core.waiting.waiters.items
waiters_here plan core rule is within = let many = is.waiting.many in omega (arith, many, within)

-- what stands in a list is a rule of the plan, so it has a list and a mark
pub behind_marked : (plan : Plan) (core : Core) (marks : Marks) → IsCore plan core → length plan.rules ≤ marks.places → (next at : ℕ) → 0 < times core.waiting.waiters.items next at → at < marks.places
behind_marked plan core marks is enough next at some =
    let led = is.waiting.led next at some in
    let within = slice_get_within plan.rules at led.0 led.1 in
    omega (arith, within, enough)

pub waiters_marked : (plan : Plan) (core : Core) (done : ℕ) (places : List ℕ) (marks : Marks) → IsCore plan core → ((other : ℕ) → count_of other places ≡ times core.waiting.waiters.items done other)
    → length plan.rules ≤ marks.places → (at : ℕ) → 0 < count_of at places → at < marks.places
waiters_marked plan core done places marks is counts enough at some =
    let same = counts at in
    behind_marked plan core marks is enough done at (omega (arith, some, same))

pub waiters_listed : (plan : Plan) (core : Core) (done : ℕ) (places : List ℕ) → IsCore plan core → ((other : ℕ) → count_of other places ≡ times core.waiting.waiters.items done other)
    → (at : ℕ) → 0 < count_of at places → at < length core.waiting.waiters.items
waiters_listed plan core done places is counts at some =
    let same = counts at in
    let led = is.waiting.led done at (omega (arith, some, same)) in
    waiters_here plan core at is (slice_get_within plan.rules at led.0 led.1)

-- a core has settled: what was reached and is pending no longer waits for none
pub settled_of : (plan : Plan) (core : Core) → IsCore plan core → IsSettledIn plan (state_of core)
settled_of plan core is = λ at rule reached down placed other produced.
    clear_waits plan.rules (is_reached plan) core.pending.items core.waiting is.waiting is.settled at other rule placed reached (is.settled at reached down) produced

-- ---- one rule alone
none_of_one : (place at : ℕ) → (at ≡ place → ⊥) → count_of at (place ∷ []) ≡ 0
none_of_one place at apart = let none = one_if-other place at (λ e. apart (sym e)) in omega (arith, none)

in_one : (place at : ℕ) → 0 < count_of at (place ∷ []) → at ≡ place
in_one place at some = elim (one_or_other at place) [ inl here ↦ here.0 | inr apart ↦ absurd (let none = none_of_one place at apart.0 in omega (arith, none, some)) ]

-- ---- marks that are set one after another
-- some rules were looked at
pub record AreOpened (core : Core) (old new : Marks) (numbers : List ℕ) : Type 0 where
  pub marks : IsMarks new
  pub places : new.places ≡ old.places
  pub set : (at : ℕ) → is_marked new at ≡ (list_any (λ number. at == number) numbers && open_test core at)

pub opened_none : (core : Core) (marks : Marks) → IsMarks marks → ((at : ℕ) → is_marked marks at ≡ false) → AreOpened core marks marks []
opened_none core marks is none = record { marks = is; places = refl; set = none }

pub opened_more : (core : Core) (old mid new : Marks) (numbers : List ℕ) (i : ℕ) → i < length numbers → AreOpened core old mid (take i numbers) → IsMarks new → new.places ≡ mid.places
    → ((at : ℕ) → is_marked new at ≡ (is_marked mid at || (at == get_or numbers i 0 && open_test core (get_or numbers i 0)))) → AreOpened core old new (take (i + 1) numbers)
opened_more core old mid new numbers i less are kept places set = record {
  marks = kept;
  places = places ∙ are.places;
  set = λ at.
      set at
      ∙ ap (λ (b : Bool). b || (at == get_or numbers i 0 && open_test core (get_or numbers i 0))) (are.set at)
      ∙ by (list_any (λ number. at == number) (take i numbers)) (at == get_or numbers i 0) (open_test core at) (open_test core (get_or numbers i 0)) (λ same. ap (open_test core) (sym (eqb-true at (get_or numbers i 0) same)))
      ∙ ap (λ (b : Bool). b && open_test core at) (sym (list_any_more (λ number. at == number) numbers i 0 less));
}
  where
    by : (found last opened next : Bool) → (last ≡ true → next ≡ opened) → ((found && opened) || (last && next)) ≡ ((found || last) && opened)
    by true true true next same = refl
    by true true false next same = same refl
    by true false true next same = refl
    by true false false next same = refl
    by false true opened next same = same refl
    by false false opened next same = refl

-- a rule is marked that is open
pub opens_one : (was same opened : Bool) → opened ≡ true → (if same then true else was) ≡ (was || (same && opened))
opens_one true true true up = refl
opens_one false true true up = refl
opens_one true false true up = refl
opens_one false false true up = refl
opens_one was same false up = absurd (true≢false (sym up))

-- and one that isn't stays as it was
pub opens_none : (was same opened : Bool) → opened ≡ false → was ≡ (was || (same && opened))
opens_none true true false down = refl
opens_none false true false down = refl
opens_none true false false down = refl
opens_none false false false down = refl
opens_none was same true down = absurd (true≢false down)

-- the marks of some places are those of a core, and all others stay
pub record AreTold (core : Core) (old new : Marks) (places : List ℕ) : Type 0 where
  pub marks : IsMarks new
  pub same : new.places ≡ old.places
  pub set : (at : ℕ) → is_marked new at ≡ (if count_of at places == 0 then is_marked old at else open_test core at)

pub told_none : (core : Core) (marks : Marks) → IsMarks marks → AreTold core marks marks []
told_none core marks is = record { marks = is; same = refl; set = λ at. refl }

pub told_more : (core : Core) (old mid new : Marks) (places : List ℕ) (i place : ℕ) → i < length places → place ≡ get_or places i 0 → AreTold core old mid (take i places) → IsMarks new → new.places ≡ mid.places
    → ((at : ℕ) → is_marked new at ≡ (if at == place then open_test core place else is_marked mid at)) → AreTold core old new (take (i + 1) places)
told_more core old mid new places i place within is are kept same set = record {
  marks = kept;
  same = same ∙ are.same;
  set = λ at. one at (one_or_other at place);
}
  where
    not_zero : (n : ℕ) → 0 < n → (n == 0) ≡ false
    not_zero n less = elim (one_or_other n 0) [ inl is ↦ absurd (let none = is.0 in omega (arith, less, none)) | inr other ↦ other.1 ]

    some : (at : ℕ) → at ≡ place → (count_of at (take (i + 1) places) == 0) ≡ false
    some at here = not_zero (count_of at (take (i + 1) places)) (let more = count_of-take at places i place within is in let one_more = one_if-same place at (sym here) in omega (arith, more, one_more))

    none : (at : ℕ) → (at ≡ place → ⊥) → count_of at (take (i + 1) places) ≡ count_of at (take i places)
    none at apart = let more = count_of-take at places i place within is in let no_more = one_if-other place at (λ e. apart (sym e)) in omega (arith, more, no_more)

    one : (at : ℕ) → ((at ≡ place) × ((at == place) ≡ true)) ⊎ ((at ≡ place → ⊥) × ((at == place) ≡ false))
        → is_marked new at ≡ (if count_of at (take (i + 1) places) == 0 then is_marked old at else open_test core at)
    one at (inl here) =
        set at ∙ ap (λ (b : Bool). if b then open_test core place else is_marked mid at) here.1 ∙ ap (open_test core) (sym here.0)
        ∙ sym (ap (λ (b : Bool). if b then is_marked old at else open_test core at) (some at here.0))
    one at (inr apart) =
        set at ∙ ap (λ (b : Bool). if b then open_test core place else is_marked mid at) apart.1 ∙ are.set at
        ∙ ap (λ (n : ℕ). if n == 0 then is_marked old at else open_test core at) (sym (none at apart.0))

pub told_all : (core : Core) (old new : Marks) (places : List ℕ) (i : ℕ) → length places ≤ i → AreTold core old new (take i places) → AreTold core old new places
told_all core old new places i past are = subst (AreTold core old new) (take_all i places past) are

-- ---- rules that are told with those behind them

-- one rule, whose own mark was set, and with it those of its list, if it passes on
pub told_alone : (core : Core) (old middle : Marks) (place : ℕ) → ((at : ℕ) → is_marked middle at ≡ (if at == place then open_test core place else is_marked old at)) → pass_test core place ≡ false → (at : ℕ) → IsTold core (place ∷ []) old middle at
told_alone core old middle place set stays at = elim (one_or_other at place) [
  | inl here ↦ inl (set at ∙ ap (λ (b : Bool). if b then open_test core place else is_marked old at) here.1 ∙ ap (open_test core) (sym here.0))
  | inr apart ↦ inr (
    (none_of_one place at apart.0, λ next some pass. absurd (true≢false (sym pass ∙ ap (pass_test core) (in_one place next some) ∙ stays))),
    set at ∙ ap (λ (b : Bool). if b then open_test core place else is_marked old at) apart.1,
  )
]

pub told_with : (core : Core) (old middle new : Marks) (place : ℕ) (list : List ℕ) → ((at : ℕ) → is_marked middle at ≡ (if at == place then open_test core place else is_marked old at))
    → ((other : ℕ) → count_of other list ≡ times core.waiting.waiters.items place other) → ((at : ℕ) → is_marked new at ≡ (if count_of at list == 0 then is_marked middle at else open_test core at))
    → (at : ℕ) → IsTold core (place ∷ []) old new at
told_with core old middle new place list set counts told at = by (one_or_other (count_of at list) 0) (one_or_other at place)
  where
    by : ((count_of at list ≡ 0) × ((count_of at list == 0) ≡ true)) ⊎ ((count_of at list ≡ 0 → ⊥) × ((count_of at list == 0) ≡ false))
        → ((at ≡ place) × ((at == place) ≡ true)) ⊎ ((at ≡ place → ⊥) × ((at == place) ≡ false)) → IsTold core (place ∷ []) old new at
    by (inr some) which = inl (told at ∙ ap (λ (b : Bool). if b then is_marked middle at else open_test core at) some.1)
    by (inl none) (inl here) =
        inl (told at ∙ ap (λ (b : Bool). if b then is_marked middle at else open_test core at) none.1 ∙ set at ∙ ap (λ (b : Bool). if b then open_test core place else is_marked old at) here.1 ∙ ap (open_test core) (sym here.0))
    by (inl none) (inr apart) = inr (
      (none_of_one place at apart.0, λ next some pass. ap (λ (n : ℕ). times core.waiting.waiters.items n at) (in_one place next some) ∙ sym (counts at) ∙ none.0),
      told at ∙ ap (λ (b : Bool). if b then is_marked middle at else open_test core at) none.1 ∙ set at ∙ ap (λ (b : Bool). if b then open_test core place else is_marked old at) apart.1,
    )

-- the first of some rules, and one more
pub told_next : (core : Core) (old middle new : Marks) (places : List ℕ) (i place : ℕ) → i < length places → place ≡ get_or places i 0 → ((at : ℕ) → IsTold core (take i places) old middle at) → ((at : ℕ) → IsTold core (place ∷ []) middle new at)
    → (at : ℕ) → IsTold core (take (i + 1) places) old new at
told_next core old middle new places i place less here before one at = by (before at) (one at)
  where
    sum : (k : ℕ) → count_of k (take (i + 1) places) ≡ count_of k (take i places) + count_of k (place ∷ [])
    sum k = let more = count_of-take k places i place less here in omega (arith, more)

    by : IsTold core (take i places) old middle at → IsTold core (place ∷ []) middle new at → IsTold core (take (i + 1) places) old new at
    by first (inl tested) = inl tested
    by (inl tested) (inr last) = inl (last.1 ∙ tested)
    by (inr first) (inr last) = inr (
      (
        (let all = sum at in let none = first.0.0 in let no_more = last.0.0 in omega (arith, all, none, no_more)),
        λ next some pass. elim (cases_lt 0 (count_of next (take i places))) [
          | inl front ↦ first.0.1 next front pass
          | inr none ↦ last.0.1 next (let all = sum next in omega (arith, all, some, none)) pass
        ],
      ),
      last.1 ∙ first.1,
    )

pub told_start : (core : Core) (marks : Marks) (at : ℕ) → IsTold core [] marks marks at
told_start core marks at = inr ((refl, λ next some pass. absurd (none some)), refl)
  where
    none : 0 < 0 → ⊥
    none some = omega arith
