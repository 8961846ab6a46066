-- Places that lead to each other in turn, cut and joined.
use Rattle.std.proofs.Common.{◌≡◌, ℕ, zero, suc, ◌+◌, ◌-◌, ◌<◌, ◌≤◌, nat_eq, cond, List, [], ◌∷◌, ◌++◌, length, take, drop, get_or, refl, sym, ap, subst, ◌∙◌, arith}
use Rattle.std.specs.List.{count_by, All}
use Rattle.std.proofs.lemmas.List.{append-nil, length-drop, take-append-drop, get_or_append_left, get_or-drop, drop_more}
use Rattle.std.proofs.lemmas.List.Elements.{All-append, All-drop, All-take, All-from_get_or}
use Rattle.std.proofs.lemmas.List.Sums.{sum_by-append, sum_by-take-drop}
use Rattle.tup_link.specs.Circle.{InTurn, IsRound}
use Rattle.tup_link.specs.Walk.{IsTurned}

module _ (Leads : ℕ → ℕ → Type 0) where
  -- in turn, from places each of which leads to the one behind it
  pub in_turn : (xs : List ℕ) (x end : ℕ) → ((i : ℕ) → i < length xs → Leads (get_or (x ∷ xs) i 0) (get_or xs i 0)) → Leads (get_or (x ∷ xs) (length xs) 0) end → InTurn Leads x xs end
  in_turn [] x end next back = back
  in_turn (y ∷ ys) x end next back = (next 0 (omega arith), in_turn ys y end (λ i less. next (suc i) (omega arith)) back)

  cut : (xs : List ℕ) (x y : ℕ) (ys : List ℕ) (end : ℕ) → InTurn Leads x (xs ++ y ∷ ys) end → InTurn Leads x xs y × InTurn Leads y ys end
  cut [] x y ys end turn = (turn.0, turn.1)
  cut (z ∷ zs) x y ys end turn = let rest = cut zs z y ys end turn.1 in ((turn.0, rest.0), rest.1)

  joined : (xs : List ℕ) (x y : ℕ) (ys : List ℕ) (end : ℕ) → InTurn Leads x xs y → InTurn Leads y ys end → InTurn Leads x (xs ++ y ∷ ys) end
  joined [] x y ys end one two = (one, two)
  joined (z ∷ zs) x y ys end one two = (one.0, joined zs z y ys end one.1 two)

  once : (at q : ℕ) (places : List ℕ) → count_by (nat_eq q) places ≤ 1 → count_by (nat_eq q) (drop at places ++ take at places) ≤ 1
  once at q places is =
      let one = sum_by-append (λ (x : ℕ). cond (nat_eq q x) 1 0) (drop at places) (take at places) in
      let two = sum_by-take-drop (λ (x : ℕ). cond (nat_eq q x) 1 0) places at in
      omega (arith, one, two)

  -- places in a circle, from another one of them on
  around : (at : ℕ) (first : ℕ) (more : List ℕ) → at < length (first ∷ more) → InTurn Leads first more first → (y : ℕ) × (ys : List ℕ) × (drop at (first ∷ more) ++ take at (first ∷ more) ≡ y ∷ ys) × InTurn Leads y ys y
  around zero first more less turn = (first, more, append-nil (first ∷ more), turn)
  around (suc k) first more less turn = by (drop k more) refl
    where
      by : (rest : List ℕ) → drop k more ≡ rest → (y : ℕ) × (ys : List ℕ) × (drop k more ++ (first ∷ take k more) ≡ y ∷ ys) × InTurn Leads y ys y
      by [] e = absurd (let one = ap length e in let two = length-drop k more in omega (arith, one, two))
      by (y ∷ ys) e =
          let whole : more ≡ take k more ++ (y ∷ ys) = sym (take-append-drop k more) ∙ ap (λ (l : List ℕ). take k more ++ l) e in
          let parts = cut (take k more) first y ys first (subst (λ (l : List ℕ). InTurn Leads first l first) whole turn) in
          (y, ys ++ (first ∷ take k more), ap (λ (l : List ℕ). l ++ (first ∷ take k more)) e, joined ys y first (take k more) y parts.1 parts.0)

  -- from the least of them on
  pub turned_round : (places new : List ℕ) → IsRound Leads places → IsTurned places new → IsRound Leads new
  turned_round places new round turned =
      let less : turned.at < length (round.first ∷ round.more) = subst (λ (l : List ℕ). turned.at < length l) round.are turned.within in
      let found = around turned.at round.first round.more less round.leads in
      record {
        first = found.0;
        more = found.1;
        are = turned.are ∙ ap (λ (l : List ℕ). drop turned.at l ++ take turned.at l) round.are ∙ found.2;
        leads = found.3;
        once = λ q. subst (λ (l : List ℕ). count_by (nat_eq q) l ≤ 1) (sym turned.are) (once turned.at q places (round.once q));
      }

pub least : (places new : List ℕ) (y : ℕ) (ys : List ℕ) → IsTurned places new → new ≡ y ∷ ys → All (λ (at : ℕ). y ≤ at) new
least places new y ys turned are =
    let first : y ≡ get_or places turned.at 0 =
    ap (λ (l : List ℕ). get_or l 0 0) (sym are ∙ turned.are) ∙ head (drop turned.at places) (take turned.at places) (let one = length-drop turned.at places in let two = turned.within in omega (arith, one, two)) ∙ at_drop in
    subst (λ (l : List ℕ). All (λ (at : ℕ). y ≤ at) l) (sym turned.are) (All-append (λ (at : ℕ). y ≤ at) _ _ (All-drop (λ (at : ℕ). y ≤ at) turned.at places (all first)) (All-take (λ (at : ℕ). y ≤ at) turned.at places (all first)))
  where
    head : (xs zs : List ℕ) → 0 < length xs → get_or (xs ++ zs) 0 0 ≡ get_or xs 0 0
    head xs zs some = get_or_append_left xs zs 0 0 some

    at_drop : get_or (drop turned.at places) 0 0 ≡ get_or places turned.at 0
    at_drop = get_or-drop turned.at places 0 0 ∙ ap (λ n. get_or places n 0) (omega arith)

    all : y ≡ get_or places turned.at 0 → All (λ (at : ℕ). y ≤ at) places
    all first = All-from_get_or (λ (at : ℕ). y ≤ at) places 0 (λ i less. let h = turned.least i less in omega (arith, first, h))

-- the part of a way from a place on it, which the last one leads back to
pub round_of : (Leads : ℕ → ℕ → Type 0) (way : List ℕ) (at back : ℕ) → at < length way → get_or way at 0 ≡ back → ((i : ℕ) → i + 1 < length way → Leads (get_or way i 0) (get_or way (i + 1) 0)) →
    Leads (get_or way (length way - 1) 0) back → ((q : ℕ) → count_by (nat_eq q) way ≤ 1) → IsRound Leads (drop at way)
round_of Leads way at back less here leads end one =
    record {
      first = back;
      more = drop (at + 1) way;
      are = are;
      leads = in_turn Leads (drop (at + 1) way) back back next last;
      once = λ q. let two = sum_by-take-drop (λ (x : ℕ). cond (nat_eq q x) 1 0) way at in let three = one q in omega (arith, two, three);
    }
  where
    are : drop at way ≡ back ∷ drop (at + 1) way
    are = drop_more way at 0 less ∙ ap (λ (x : ℕ). x ∷ drop (at + 1) way) here

    long : suc (length (drop (at + 1) way)) + at ≡ length way
    long = let e = length-drop (at + 1) way in omega (arith, e, less)

    behind : (i : ℕ) → get_or (drop (at + 1) way) i 0 ≡ get_or way (at + i + 1) 0
    behind i = get_or-drop (at + 1) way i 0 ∙ ap (λ n. get_or way n 0) (omega arith)

    from : (i : ℕ) → get_or (back ∷ drop (at + 1) way) i 0 ≡ get_or way (at + i) 0
    from i = ap (λ (l : List ℕ). get_or l i 0) (sym are) ∙ get_or-drop at way i 0

    next : (i : ℕ) → i < length (drop (at + 1) way) → Leads (get_or (back ∷ drop (at + 1) way) i 0) (get_or (drop (at + 1) way) i 0)
    next i inside =
        subst (λ (x : ℕ). Leads x (get_or (drop (at + 1) way) i 0)) (sym (from i))
        (subst (λ (x : ℕ). Leads (get_or way (at + i) 0) x) (sym (behind i)) (leads (at + i) (omega (arith, long, inside))))

    last : Leads (get_or (back ∷ drop (at + 1) way) (length (drop (at + 1) way)) 0) back
    last = subst (λ (x : ℕ). Leads x back) (sym (from (length (drop (at + 1) way)) ∙ ap (λ n. get_or way n 0) (omega (arith, long)))) end
