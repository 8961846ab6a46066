-- A walk from its beginning to its end.
use Rattle.std.proofs.Common.{◌≡◌, ◌≢◌, ℕ, zero, suc, ◌-◌, ◌<◌, ◌≤◌, nat_eq, List, [], ◌∷◌, ◌++◌, length, replicate, get_or, take, drop, Option, Some, None, Result, Ok, Err, OnOk, unwrap_or, refl, sym, ap, subst, ◌∙◌, inl, inr, ◌⊎◌, arith}
use Rattle.std.specs.List.{slice_get, count_by}
use Rattle.std.proofs.lemmas.Bool.{cases_lt, eqb-true}
use Rattle.std.proofs.lemmas.List.Sums.{sum_by-cons}
use Rattle.std.proofs.lemmas.List.{length-replicate, get_or-replicate, get_or_push, get_or_past, get_or_default, length-append, length-drop, take_all}
use Rattle.std.proofs.lemmas.Option.{slice_get_past, slice_get-get_or, slice_get_within, unwrap_or-slice_get, none-some, same_Some}
use Rattle.tup_link.specs.declared.walk.State.{State}
use Rattle.tup_link.specs.declared.walk.State.TheVariants.{New, OnWay, Done}
use Rattle.tup_link.specs.declared.walk.Walk.{Walk}
use Rattle.tup_link.specs.Circle.{IsRound}
use Rattle.tup_link.specs.Graph.{led_to, Leads, LeadsOver, IsWithin, HasNoCircle}
use Rattle.tup_link.specs.Walk.{state, on_way, IsWalk, IsAt, Begins, Enters, GoesOn, LeadsBack, IsOver}
use Rattle.tup_link.proofs.Turning.{round_of}
use Rattle.tup_link.proofs.Walking.{one_if, isnt_on_way, one_apart, at_end, front_of, state_same, entered}

-- ---- steps one after another

pub stays : (graph : List (List ℕ)) (walk : Walk) → IsWalk graph walk → GoesOn graph walk walk
stays graph walk is = record { walk = is; met = λ at met. met; done = λ at done. done }

pub goes : (graph : List (List ℕ)) (one two three : Walk) → GoesOn graph one two → GoesOn graph two three → GoesOn graph one three
goes graph one two three first second = record {
  walk = second.walk;
  met = λ at met. second.met at (first.met at met);
  done = λ at done. second.done at (first.done at done);
}

-- ---- places

-- a place whose state isn't that of an unknown one is one of the walk's
pub known_place : (walk : Walk) (at : ℕ) → state walk at ≢ New → at < length walk.states.items
known_place walk at met = elim (cases_lt at (length walk.states.items)) [
  | inl inside ↦ inside
  | inr beyond ↦ absurd (met (ap (λ (o : Option State). unwrap_or o New) (slice_get_past walk.states.items at beyond)))
]

OnWay≢New : (s : State) → s ≡ OnWay → s ≢ New
OnWay≢New s one two = let e : OnWay ≡ New = sym one ∙ two in cc

pub end_within : (graph : List (List ℕ)) (walk : Walk) (at : ℕ) → IsWalk graph walk → IsAt walk at → at < length walk.states.items
end_within graph walk at is end = known_place walk at (OnWay≢New (state walk at) (at_end graph walk at is end))

-- no place is the last of an empty way
pub no_end : (walk : Walk) (at : ℕ) → walk.way.items ≡ [] → IsAt walk at → ⊥
no_end walk at none (front, way) = let e = ap length (sym none ∙ way) in let long = length-append front (at ∷ []) in omega (arith, e, long)

-- where all places to which one leads are passed, all are done
pub all_passed : (graph : List (List ℕ)) (walk : Walk) (at : ℕ) → IsWalk graph walk → slice_get (led_to graph at) (get_or walk.passed.items at 0) ≡ None → (next : ℕ) → Leads graph at next → state walk next ≡ Done
all_passed graph walk at is none next (k, less, here) = by (cases_lt k (get_or walk.passed.items at 0))
  where
    there : slice_get (led_to graph at) k ≡ Some next
    there = slice_get-get_or (led_to graph at) k next less ∙ ap Some here

    by : (k < get_or walk.passed.items at 0) ⊎ (get_or walk.passed.items at 0 ≤ k) → state walk next ≡ Done
    by (inl earlier) = is.passed at k next earlier there
    by (inr later) =
        let inside : get_or walk.passed.items at 0 < length (led_to graph at) = omega (arith, later, less) in
        absurd (none-some _ (sym none ∙ slice_get-get_or (led_to graph at) (get_or walk.passed.items at 0) 0 inside))

pub leads_at : (graph : List (List ℕ)) (at i next : ℕ) → slice_get (led_to graph at) i ≡ Some next → Leads graph at next
leads_at graph at i next here =
    let less = slice_get_within (led_to graph at) i next here in
    (i, less, same_Some (get_or (led_to graph at) i next) next (sym (slice_get-get_or (led_to graph at) i next less) ∙ here))

pub led_within : (graph : List (List ℕ)) (at i next : ℕ) → slice_get (led_to graph at) i ≡ Some next → i < length (led_to graph at)
led_within graph at i next here = slice_get_within (led_to graph at) i next here

-- the last place of a way is one
last_is : (walk : Walk) (at : ℕ) → IsAt walk at → get_or walk.way.items (length walk.way.items - 1) 0 ≡ at
last_is walk at (front, way) =
    let long = ap length way ∙ length-append front (at ∷ []) in
    ap (λ (w : List ℕ). get_or w (length walk.way.items - 1) 0) way ∙ get_or_push front at 0 (length walk.way.items - 1) (omega (arith, long))

same_end : (walk : Walk) (at other : ℕ) → IsAt walk at → IsAt walk other → at ≡ other
same_end walk at other one two = sym (last_is walk at one) ∙ last_is walk other two

-- the last place leads to another
pub leads_back : (graph : List (List ℕ)) (walk : Walk) (at next : ℕ) → IsAt walk at → Leads graph at next → state walk next ≡ OnWay → LeadsBack graph walk next
leads_back graph walk at next end leads on = (on, λ other other_end. subst (λ (x : ℕ). Leads graph x next) (same_end walk at other end other_end) leads)

-- ---- what a step needs

pub end_in_graph : (graph : List (List ℕ)) (walk : Walk) (at : ℕ) → IsWalk graph walk → IsAt walk at → at < length graph
end_in_graph graph walk at is end = let less = end_within graph walk at is end in let same = is.all_states in omega (arith, less, same)

pub end_in_passed : (graph : List (List ℕ)) (walk : Walk) (at : ℕ) → IsWalk graph walk → IsAt walk at → at < length walk.passed.items
end_in_passed graph walk at is end = let less = end_in_graph graph walk at is end in let same = is.all_passed in omega (arith, less, same)

pub next_in_states : (graph : List (List ℕ)) (walk : Walk) (at i next : ℕ) → IsWithin graph → IsWalk graph walk → slice_get (led_to graph at) i ≡ Some next → next < length walk.states.items
next_in_states graph walk at i next within is here = let less = within at next (leads_at graph at i next here) in let same = is.all_states in omega (arith, less, same)

-- the state that was read at a place
pub read_state : (walk : Walk) (at : ℕ) (s : State) → at < length walk.states.items → s ≡ get_or walk.states.items at s → state walk at ≡ s
read_state walk at s less here =
    unwrap_or-slice_get walk.states.items at New ∙ get_or_default walk.states.items at New s less ∙ sym here

-- onto the next place
pub led_on : (graph : List (List ℕ)) (walk : Walk) (at next : ℕ) → IsAt walk at → Leads graph at next → (last : ℕ) → IsAt walk last → Leads graph last next
led_on graph walk at next end leads last last_end = subst (λ (x : ℕ). Leads graph x next) (same_end walk at last end last_end) leads

-- onto the first place
pub led_first : (graph : List (List ℕ)) (walk : Walk) (from : ℕ) → walk.way.items ≡ [] → (last : ℕ) → IsAt walk last → Leads graph last from
led_first graph walk from none last end = absurd (no_end walk last none end)

-- a place that was entered is known
pub known_here : (old new : Walk) (at : ℕ) → Enters at old new → at < length old.states.items → state new at ≢ New
known_here old new at enters less e = let on : New ≡ OnWay = sym e ∙ state_same old new at OnWay enters.states less in cc

-- ---- the beginning

-- all numbers of a list are zero
no_number : (list : List ℕ) (count at : ℕ) → list ≡ replicate count 0 → get_or list at 0 ≡ 0
no_number list count at are = elim (cases_lt at (length list)) [
  | inl inside ↦
      let long : length list ≡ count = ap length are ∙ length-replicate {A = ℕ} count 0 in
      ap (λ (l : List ℕ). get_or l at 0) are ∙ get_or-replicate {A = ℕ} count at 0 0 (omega (arith, long, inside))
  | inr beyond ↦ get_or_past list at 0 beyond
]

pub begun : (graph : List (List ℕ)) (walk : Walk) → walk.states.items ≡ replicate (length graph) New → walk.passed.items ≡ replicate (length graph) 0 → walk.way.items ≡ [] → IsWalk graph walk
begun graph walk states passed way = record {
  all_states = ap length states ∙ length-replicate (length graph) New;
  all_passed = ap length passed ∙ length-replicate (length graph) 0;
  way = λ at. ap (λ (w : List ℕ). count_by (nat_eq at) w) way ∙ ap (λ (s : State). one_if (on_way s)) (sym (fresh at));
  leads = λ i less. absurd (let e = ap length way in omega (arith, e, less));
  passed = λ at i next less here. absurd (let e = none at in omega (arith, e, less));
  done = λ at next done leads. absurd (new_done (sym (fresh at) ∙ done));
  no_circle = λ at between done over. new_done (sym (fresh at) ∙ done);
}
  where
    new_done : New ≡ Done → ⊥
    new_done e = cc

    fresh : (at : ℕ) → state walk at ≡ New
    fresh at = ap (λ (l : List State). unwrap_or (slice_get l at) New) states ∙ by (cases_lt at (length graph))
      where
        by : (at < length graph) ⊎ (length graph ≤ at) → unwrap_or (slice_get (replicate (length graph) New) at) New ≡ New
        by (inl inside) = unwrap_or-slice_get (replicate (length graph) New) at New ∙ get_or-replicate (length graph) at New New inside
        by (inr beyond) = ap (λ (o : Option State). unwrap_or o New) (slice_get_past (replicate (length graph) New) at (let e = length-replicate (length graph) New in omega (arith, e, beyond)))

    none : (at : ℕ) → get_or walk.passed.items at 0 ≡ 0
    none at = no_number walk.passed.items (length graph) at passed

-- ---- the first place

pub begins_new : {X E : Type 0} (r : Result X E) (old new : Walk) (from : ℕ) → old.way.items ≡ [] → from < length old.states.items → state old from ≡ New → OnOk r (Enters from old new) → OnOk r (Begins from old new)
begins_new (Ok _) old new from none less fresh enters = λ graph is. (entered graph old new from is enters less fresh (led_first graph old from none), known_here old new from enters less)
begins_new (Err _) old new from none less fresh enters = tt

pub begins_known : (walk : Walk) (from : ℕ) → state walk from ≢ New → Begins from walk walk
begins_known walk from met = λ graph is. (stays graph walk is, met)

-- ---- the end

pub over : (graph : List (List ℕ)) (walk : Walk) (from : ℕ) → IsWalk graph walk → walk.way.items ≡ [] → state walk from ≢ New → IsOver walk from
over graph walk from is none met =
    (none, isnt_on_way (state walk from) (sym (is.way from) ∙ ap (λ (w : List ℕ). count_by (nat_eq from) w) none) met)

-- where all places are done there is no circle
pub none_left : (graph : List (List ℕ)) (walk : Walk) → IsWalk graph walk → ((at : ℕ) → at < length graph → state walk at ≡ Done) → HasNoCircle graph
none_left graph walk is all at between over = is.no_circle at between (all at (inside at between at over)) over
  where
    first : (at next : ℕ) → Leads graph at next → at < length graph
    first at next (k, less, here) = elim (cases_lt at (length graph)) [
      | inl inside ↦ inside
      | inr beyond ↦ absurd (let e = ap length (ap (λ (o : Option (List ℕ)). unwrap_or o []) (slice_get_past graph at beyond)) in omega (arith, e, less))
    ]

    inside : (at between end : ℕ) → LeadsOver between graph at end → at < length graph
    inside at zero end leads = first at end leads
    inside at (suc between) end (next, leads, more) = first at next leads

-- ---- the circle

-- a number that stands nowhere in a list
count_none : (list : List ℕ) (one : ℕ) → ((i : ℕ) → i < length list → get_or list i 0 ≢ one) → count_by (nat_eq one) list ≡ 0
count_none [] one none = refl
count_none (x ∷ list) one none =
    sum_by-cons (λ (y : ℕ). one_if (nat_eq one y)) x list
    ∙ (let rest = count_none list one (λ i less. none (suc i) (omega arith)) in let here = one_apart (nat_eq one x) (λ e. none 0 (omega arith) (sym (eqb-true one x e))) in omega (arith, rest, here))

last_at : (way : List ℕ) → 0 < length way → way ≡ take (length way - 1) way ++ get_or way (length way - 1) 0 ∷ []
last_at way some = front_of way (length way - 1) (omega arith)

pub round : (graph : List (List ℕ)) (walk : Walk) (back at : ℕ) → IsWalk graph walk → LeadsBack graph walk back → at ≤ length walk.way.items → ((i : ℕ) → i < at → get_or walk.way.items i 0 ≢ back) →
    (at < length walk.way.items → get_or walk.way.items at 0 ≡ back) → IsRound (Leads graph) (drop at walk.way.items)
round graph walk back at is (on, leads) within before here =
    round_of (Leads graph) walk.way.items at back inside (here inside) is.leads
    (leads (get_or walk.way.items (length walk.way.items - 1) 0) (take (length walk.way.items - 1) walk.way.items, last_at walk.way.items (omega (arith, inside))))
    (λ q. let e = is.way q in let few = at_most (state walk q) in omega (arith, e, few))
  where
    at_most : (s : State) → one_if (on_way s) ≤ 1
    at_most New = omega arith
    at_most OnWay = omega arith
    at_most Done = omega arith

    stands : 0 < count_by (nat_eq back) walk.way.items
    stands = let e = is.way back ∙ ap (λ (s : State). one_if (on_way s)) on in omega (arith, e)

    inside : at < length walk.way.items
    inside = elim (cases_lt at (length walk.way.items)) [
      | inl less ↦ less
      | inr all ↦ absurd (let e = count_none walk.way.items back (λ i less. before i (omega (arith, all, less))) in let s = stands in omega (arith, e, s))
    ]

-- what is left of a list from a place on, read by its length
pub rest_whole : (list : List ℕ) (at : ℕ) → take (length list - at) (drop at list) ≡ drop at list
rest_whole list at = take_all (length list - at) (drop at list) (let e = length-drop at list in omega (arith, e))

-- the same of a part of the way, which was read twice
pub round_read : (graph : List (List ℕ)) (walk : Walk) (back at : ℕ) (one two : List ℕ) → one ≡ walk.way.items → two ≡ walk.way.items → IsWalk graph walk → LeadsBack graph walk back → at ≤ length one →
    ((i : ℕ) → i < at → get_or one i 0 ≢ back) → (at < length one → get_or one at 0 ≡ back) → IsRound (Leads graph) (drop at two)
round_read graph walk back at one two first second is leads within before here =
    subst (λ (l : List ℕ). IsRound (Leads graph) (drop at l)) (sym second)
    (round graph walk back at is leads (subst (λ (l : List ℕ). at ≤ length l) first within) (λ i less. subst (λ (l : List ℕ). get_or l i 0 ≢ back) first (before i less))
    (λ less. subst (λ (l : List ℕ). get_or l at 0 ≡ back) first (here (subst (λ (l : List ℕ). at < length l) (sym first) less))))
