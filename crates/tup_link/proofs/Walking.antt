-- A walk after one step: that it is a walk still, and that it kept what it knew.
use Rattle.std.proofs.Common.{◌≡◌, ◌≢◌, ℕ, zero, suc, ◌+◌, ◌<◌, ◌≤◌, nat_eq, Bool, true, false, cond, List, [], ◌∷◌, ◌++◌, length, take, get_or, set, Some, unwrap_or, refl, sym, ap, subst, ◌∙◌, inl, inr, ◌⊎◌, arith, eq-eqb}
use Rattle.std.specs.List.{slice_get, count_by}
use Rattle.std.proofs.lemmas.Bool.{cases_eq, cases_lt, eqb-true}
use Rattle.std.proofs.lemmas.List.{length-set, length-append, get_or-set_same, get_or-set_other, get_or_append_left, get_or_push, take_more, take_all}
use Rattle.std.proofs.lemmas.List.Sums.{sum_by_push}
use Rattle.std.proofs.lemmas.Option.{unwrap_or-slice_get, same_Some}
use Rattle.tup_link.specs.declared.walk.State.{State}
use Rattle.tup_link.specs.declared.walk.State.TheVariants.{New, OnWay, Done}
use Rattle.tup_link.specs.declared.walk.Walk.{Walk}
use Rattle.tup_link.specs.Graph.{led_to, Leads, LeadsOver}
use Rattle.tup_link.specs.Walk.{state, on_way, IsWalk, IsAt, Enters, Leaves, Passes, GoesOn}

-- ---- states

OnWay≢New : OnWay ≡ New → ⊥
OnWay≢New e = cc

OnWay≢Done : OnWay ≡ Done → ⊥
OnWay≢Done e = cc

New≢Done : New ≡ Done → ⊥
New≢Done e = cc

Done≢New : Done ≡ New → ⊥
Done≢New e = cc

-- one where a test passes
abbrev pub one_if : Bool → ℕ
one_if b = cond b 1 0

-- a place on the way has just this state
pub is_on_way : (s : State) → 0 < one_if (on_way s) → s ≡ OnWay
is_on_way New some = absurd (omega arith)
is_on_way OnWay some = refl
is_on_way Done some = absurd (omega arith)

pub isnt_on_way : (s : State) → one_if (on_way s) ≡ 0 → s ≢ New → s ≡ Done
isnt_on_way New none met = absurd (met refl)
isnt_on_way OnWay none met = absurd (omega arith)
isnt_on_way Done none met = refl

-- what the list of states says after a change
pub state_same : (old new : Walk) (at : ℕ) (v : State) → new.states.items ≡ set old.states.items at v → at < length old.states.items → state new at ≡ v
state_same old new at v e less =
    ap (λ (states : List State). unwrap_or (slice_get states at) New) e
    ∙ unwrap_or-slice_get (set old.states.items at v) at New
    ∙ get_or-set_same old.states.items at v New less

state_other : (old new : Walk) (at other : ℕ) (v : State) → new.states.items ≡ set old.states.items at v → (other ≡ at → ⊥) → state new other ≡ state old other
state_other old new at other v e apart =
    ap (λ (states : List State). unwrap_or (slice_get states other) New) e
    ∙ unwrap_or-slice_get (set old.states.items at v) other New
    ∙ get_or-set_other old.states.items at other v New apart
    ∙ sym (unwrap_or-slice_get old.states.items other New)

state_kept : (old new : Walk) (other : ℕ) → new.states.items ≡ old.states.items → state new other ≡ state old other
state_kept old new other e = ap (λ (states : List State). unwrap_or (slice_get states other) New) e

-- ---- ways

count_push : (q at : ℕ) (way : List ℕ) → count_by (nat_eq q) (way ++ at ∷ []) ≡ count_by (nat_eq q) way + one_if (nat_eq q at)
count_push q at way = sum_by_push (λ (x : ℕ). one_if (nat_eq q x)) way at

one_same : (q at : ℕ) → q ≡ at → one_if (nat_eq q at) ≡ 1
one_same q at e = ap one_if (eq-eqb q at e)

pub one_apart : (b : Bool) → (b ≡ true → ⊥) → one_if b ≡ 0
one_apart true apart = absurd (apart refl)
one_apart false apart = refl

one_other : (q at : ℕ) → (q ≡ at → ⊥) → one_if (nat_eq q at) ≡ 0
one_other q at apart = one_apart (nat_eq q at) (λ e. apart (eqb-true q at e))

-- the last place of a way is on it
pub at_end : (graph : List (List ℕ)) (walk : Walk) (at : ℕ) → IsWalk graph walk → IsAt walk at → state walk at ≡ OnWay
at_end graph walk at is (front, way) =
    is_on_way (state walk at) (let here = count_push at at front in let one = one_same at at refl in let there = is.way at in
    let same = ap (λ (w : List ℕ). count_by (nat_eq at) w) way in omega (arith, here, one, there, same))

-- what stands before the last place
pub front_of : (way : List ℕ) (i : ℕ) → i + 1 ≡ length way → way ≡ take i way ++ get_or way i 0 ∷ []
front_of way i e = sym (take_all (i + 1) way (omega arith)) ∙ take_more way i 0 (omega arith)

-- ---- onto a new place

module _ (graph : List (List ℕ)) (old new : Walk) (at : ℕ) (is : IsWalk graph old) (enters : Enters at old new) (within : at < length old.states.items) (fresh : state old at ≡ New)
    (led : (last : ℕ) → IsAt old last → Leads graph last at) where
  entered_done : (q : ℕ) → state new q ≡ Done → state old q ≡ Done
  entered_done q done = elim (cases_eq q at) [
    | inl same ↦ absurd (OnWay≢Done (sym (ap (state new) same ∙ state_same old new at OnWay enters.states within) ∙ done))
    | inr apart ↦ sym (state_other old new at q OnWay enters.states apart) ∙ done
  ]

  entered_stays : (q : ℕ) → state old q ≡ Done → state new q ≡ Done
  entered_stays q done = elim (cases_eq q at) [
    | inl same ↦ absurd (New≢Done (sym (ap (state old) same ∙ fresh) ∙ done))
    | inr apart ↦ state_other old new at q OnWay enters.states apart ∙ done
  ]

  entered_met : (q : ℕ) → state old q ≢ New → state new q ≢ New
  entered_met q met e = elim (cases_eq q at) [
    | inl same ↦ OnWay≢New (sym (ap (state new) same ∙ state_same old new at OnWay enters.states within) ∙ e)
    | inr apart ↦ met (sym (state_other old new at q OnWay enters.states apart) ∙ e)
  ]

  entered_way : (q : ℕ) → count_by (nat_eq q) new.way.items ≡ one_if (on_way (state new q))
  entered_way q =
      ap (λ (w : List ℕ). count_by (nat_eq q) w) enters.way ∙ count_push q at old.way.items ∙ elim (cases_eq q at) [
        | inl same ↦
            let one = one_same q at same in
            let before : count_by (nat_eq q) old.way.items ≡ 0 = is.way q ∙ ap (λ (s : State). one_if (on_way s)) (ap (state old) same ∙ fresh) in
            let after : one_if (on_way (state new q)) ≡ 1 = ap (λ (s : State). one_if (on_way s)) (ap (state new) same ∙ state_same old new at OnWay enters.states within) in
            omega (arith, one, before, after)
        | inr apart ↦
            let none = one_other q at apart in
            let after : one_if (on_way (state new q)) ≡ one_if (on_way (state old q)) = ap (λ (s : State). one_if (on_way s)) (state_other old new at q OnWay enters.states apart) in
            let before = is.way q in
            omega (arith, none, before, after)
      ]

  entered_leads : (i : ℕ) → i + 1 < length new.way.items → Leads graph (get_or new.way.items i 0) (get_or new.way.items (i + 1) 0)
  entered_leads i less = subst (λ (w : List ℕ). Leads graph (get_or w i 0) (get_or w (i + 1) 0)) (sym enters.way) (by (cases_lt (i + 1) (length old.way.items)))
    where
      long : length new.way.items ≡ length old.way.items + 1
      long = ap length enters.way ∙ length-append old.way.items (at ∷ [])

      by : (i + 1 < length old.way.items) ⊎ (length old.way.items ≤ i + 1) → Leads graph (get_or (old.way.items ++ at ∷ []) i 0) (get_or (old.way.items ++ at ∷ []) (i + 1) 0)
      by (inl inside) =
          subst (λ (x : ℕ). Leads graph x (get_or (old.way.items ++ at ∷ []) (i + 1) 0)) (sym (get_or_append_left old.way.items (at ∷ []) 0 i (omega arith)))
          (subst (λ (x : ℕ). Leads graph (get_or old.way.items i 0) x) (sym (get_or_append_left old.way.items (at ∷ []) 0 (i + 1) inside)) (is.leads i inside))
      by (inr beyond) =
          let last : i + 1 ≡ length old.way.items = omega (arith, long, less, beyond) in
          subst (λ (x : ℕ). Leads graph x (get_or (old.way.items ++ at ∷ []) (i + 1) 0)) (sym (get_or_append_left old.way.items (at ∷ []) 0 i (omega (arith, last))))
          (subst (λ (x : ℕ). Leads graph (get_or old.way.items i 0) x) (sym (get_or_push old.way.items at 0 (i + 1) (sym last)))
          (led (get_or old.way.items i 0) (take i old.way.items, front_of old.way.items i last)))

  pub entered : GoesOn graph old new
  entered = record {
    walk = record {
      all_states = ap length enters.states ∙ length-set old.states.items at OnWay ∙ is.all_states;
      all_passed = ap length enters.passed ∙ is.all_passed;
      way = entered_way;
      leads = entered_leads;
      passed = λ q i next less there. entered_stays next (is.passed q i next (subst (λ (p : List ℕ). i < get_or p q 0) enters.passed less) there);
      done = λ q next done leads. entered_stays next (is.done q next (entered_done q done) leads);
      no_circle = λ q between done over. is.no_circle q between (entered_done q done) over;
    };
    met = entered_met;
    done = entered_stays;
  }

-- ---- from a place that is done

-- a place that is done leads over others to such alone
pub done_over : (graph : List (List ℕ)) (walk : Walk) → IsWalk graph walk → (between from end : ℕ) → state walk from ≡ Done → LeadsOver between graph from end → state walk end ≡ Done
done_over graph walk is zero from end done leads = is.done from end done leads
done_over graph walk is (suc between) from end done (next, leads, more) = done_over graph walk is between next end (is.done from next done leads) more

module _ (graph : List (List ℕ)) (old new : Walk) (at : ℕ) (is : IsWalk graph old) (leaves : Leaves at old new) (within : at < length old.states.items)
    (all_done : (next : ℕ) → Leads graph at next → state old next ≡ Done) where
  was : state old at ≡ OnWay
  was = at_end graph old at is (new.way.items, leaves.way)

  left_here : state new at ≡ Done
  left_here = state_same old new at Done leaves.states within

  left_stays : (q : ℕ) → state old q ≡ Done → state new q ≡ Done
  left_stays q done = elim (cases_eq q at) [
    | inl same ↦ ap (state new) same ∙ left_here
    | inr apart ↦ state_other old new at q Done leaves.states apart ∙ done
  ]

  left_met : (q : ℕ) → state old q ≢ New → state new q ≢ New
  left_met q met e = elim (cases_eq q at) [
    | inl same ↦ Done≢New (sym (ap (state new) same ∙ left_here) ∙ e)
    | inr apart ↦ met (sym (state_other old new at q Done leaves.states apart) ∙ e)
  ]

  left_count : (q : ℕ) → count_by (nat_eq q) old.way.items ≡ count_by (nat_eq q) new.way.items + one_if (nat_eq q at)
  left_count q = ap (λ (w : List ℕ). count_by (nat_eq q) w) leaves.way ∙ count_push q at new.way.items

  left_way : (q : ℕ) → count_by (nat_eq q) new.way.items ≡ one_if (on_way (state new q))
  left_way q = elim (cases_eq q at) [
    | inl same ↦
        let one = one_same q at same in
        let count = left_count q in
        let before : count_by (nat_eq q) old.way.items ≡ 1 = is.way q ∙ ap (λ (s : State). one_if (on_way s)) (ap (state old) same ∙ was) in
        let after : one_if (on_way (state new q)) ≡ 0 = ap (λ (s : State). one_if (on_way s)) (ap (state new) same ∙ left_here) in
        omega (arith, one, count, before, after)
    | inr apart ↦
        let none = one_other q at apart in
        let count = left_count q in
        let before = is.way q in
        let after : one_if (on_way (state new q)) ≡ one_if (on_way (state old q)) = ap (λ (s : State). one_if (on_way s)) (state_other old new at q Done leaves.states apart) in
        omega (arith, none, count, before, after)
  ]

  left_leads : (i : ℕ) → i + 1 < length new.way.items → Leads graph (get_or new.way.items i 0) (get_or new.way.items (i + 1) 0)
  left_leads i less =
      let long : length old.way.items ≡ length new.way.items + 1 = ap length leaves.way ∙ length-append new.way.items (at ∷ []) in
      let one : get_or old.way.items i 0 ≡ get_or new.way.items i 0 = ap (λ (w : List ℕ). get_or w i 0) leaves.way ∙ get_or_append_left new.way.items (at ∷ []) 0 i (omega arith) in
      let two : get_or old.way.items (i + 1) 0 ≡ get_or new.way.items (i + 1) 0 = ap (λ (w : List ℕ). get_or w (i + 1) 0) leaves.way ∙ get_or_append_left new.way.items (at ∷ []) 0 (i + 1) less in
      subst (λ (x : ℕ). Leads graph x (get_or new.way.items (i + 1) 0)) one (subst (λ (x : ℕ). Leads graph (get_or old.way.items i 0) x) two (is.leads i (omega (arith, long))))

  left_next : (q next : ℕ) → state new q ≡ Done → Leads graph q next → state old next ≡ Done
  left_next q next done leads = elim (cases_eq q at) [
    | inl same ↦ all_done next (subst (λ (x : ℕ). Leads graph x next) same leads)
    | inr apart ↦ is.done q next (sym (state_other old new at q Done leaves.states apart) ∙ done) leads
  ]

  round : (between : ℕ) → LeadsOver between graph at at → ⊥
  round zero leads = OnWay≢Done (sym was ∙ all_done at leads)
  round (suc between) (next, leads, more) = OnWay≢Done (sym was ∙ done_over graph old is between next at (all_done next leads) more)

  left_circle : (q between : ℕ) → state new q ≡ Done → LeadsOver between graph q q → ⊥
  left_circle q between done over = elim (cases_eq q at) [
    | inl same ↦ round between (subst (λ (x : ℕ). LeadsOver between graph x x) same over)
    | inr apart ↦ is.no_circle q between (sym (state_other old new at q Done leaves.states apart) ∙ done) over
  ]

  pub left : GoesOn graph old new
  left = record {
    walk = record {
      all_states = ap length leaves.states ∙ length-set old.states.items at Done ∙ is.all_states;
      all_passed = ap length leaves.passed ∙ is.all_passed;
      way = left_way;
      leads = left_leads;
      passed = λ q i next less there. left_stays next (is.passed q i next (subst (λ (p : List ℕ). i < get_or p q 0) leaves.passed less) there);
      done = λ q next done leads. left_stays next (left_next q next done leads);
      no_circle = left_circle;
    };
    met = left_met;
    done = left_stays;
  }

-- ---- past a place that is done

module _ (graph : List (List ℕ)) (old new : Walk) (at next : ℕ) (is : IsWalk graph old) (passes : Passes at old new) (within : at < length old.passed.items)
    (here : slice_get (led_to graph at) (get_or old.passed.items at 0) ≡ Some next) (is_done : state old next ≡ Done) where
  past_passed : (q i n : ℕ) → i < get_or new.passed.items q 0 → slice_get (led_to graph q) i ≡ Some n → state old n ≡ Done
  past_passed q i n less there = elim (cases_eq q at) [
    | inl same ↦ by same (cases_eq i (get_or old.passed.items at 0))
    | inr apart ↦ is.passed q i n (subst (λ (x : ℕ). i < x) (ap (λ (p : List ℕ). get_or p q 0) passes.passed ∙ get_or-set_other old.passed.items at q (get_or old.passed.items at 0 + 1) 0 apart) less) there
  ]
    where
      by : q ≡ at → (i ≡ get_or old.passed.items at 0) ⊎ (i ≡ get_or old.passed.items at 0 → ⊥) → state old n ≡ Done
      by same (inl last) =
          let e : Some n ≡ Some next = sym there ∙ ap (λ (x : ℕ). slice_get (led_to graph x) i) same ∙ ap (λ (x : ℕ). slice_get (led_to graph at) x) last ∙ here in
          ap (state old) (same_Some n next e) ∙ is_done
      by same (inr earlier) =
          let more : get_or new.passed.items q 0 ≡ get_or old.passed.items at 0 + 1 =
          ap (λ (p : List ℕ). get_or p q 0) passes.passed ∙ ap (λ (x : ℕ). get_or (set old.passed.items at (get_or old.passed.items at 0 + 1)) x 0) same ∙ get_or-set_same old.passed.items at (get_or old.passed.items at 0 + 1) 0 within in
          is.passed at i n (omega (arith, more, less, earlier)) (subst (λ (x : ℕ). slice_get (led_to graph x) i ≡ Some n) same there)

  past_state : (q : ℕ) → state new q ≡ state old q
  past_state q = state_kept old new q passes.states

  pub past : GoesOn graph old new
  past = record {
    walk = record {
      all_states = ap length passes.states ∙ is.all_states;
      all_passed = ap length passes.passed ∙ length-set old.passed.items at (get_or old.passed.items at 0 + 1) ∙ is.all_passed;
      way = λ q. ap (λ (w : List ℕ). count_by (nat_eq q) w) passes.way ∙ is.way q ∙ ap (λ (s : State). one_if (on_way s)) (sym (past_state q));
      leads = λ i less. subst (λ (w : List ℕ). Leads graph (get_or w i 0) (get_or w (i + 1) 0)) (sym passes.way) (is.leads i (subst (λ (w : List ℕ). i + 1 < length w) passes.way less));
      passed = λ q i n less there. past_state n ∙ past_passed q i n less there;
      done = λ q n done leads. past_state n ∙ is.done q n (sym (past_state q) ∙ done) leads;
      no_circle = λ q between done over. is.no_circle q between (sym (past_state q) ∙ done) over;
    };
    met = λ q met e. met (sym (past_state q) ∙ e);
    done = λ q done. past_state q ∙ done;
  }
