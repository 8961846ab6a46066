-- What a write leaves of bytes at their end, at a gate, and behind a gate: where it succeeds, and where it is torn.
use Rattle.std.proofs.Common.{◌≡◌, ℕ, zero, suc, ◌+◌, ◌-◌, ◌≤◌, max, List, [], ◌∷◌, ◌++◌, length, get_or, take, drop, refl, sym, ap, subst, ◌∙◌, append_assoc, length-append, length-drop, length-take-le, drop-drop, take-append-drop, arith, inl, inr}
use Rattle.std.proofs.Math.Nat.{le_trans, le-max_left, le-max_right, max-le}
use Rattle.std.proofs.lemmas.List.{take_at, drop_at, drop_all, drop_more}
use Rattle.tup_site.specs.Store.{Holds, IsTorn}
use Rattle.tup_table.specs.Images.{LacksGate, MayClose}
use Rattle.tup_table.specs.Store.{IsEnd}

-- ---- bounds
max_wider : (a b c k : ℕ) → b ≤ c → k ≤ max a b → k ≤ max a c
max_wider a b c k le short = le_trans short (max-le (le-max_left a c) (le_trans le (le-max_right a c)))

max_then : (a m b k : ℕ) → m ≤ max a b → k ≤ max m b → k ≤ max a b
max_then a m b k first short = le_trans short (max-le first (le-max_right a b))

-- ---- ends
-- an end of at most one byte ends a store, whatever the byte
short_end : (rest : List ℕ) → length rest ≤ 1 → IsEnd rest
short_end [] le = tt
short_end (gate ∷ []) le = inr refl
short_end (gate ∷ more ∷ rest) le = absurd (omega (arith, le))

-- so does one that a closed gate was to be written at
pub still_end : (rest left : List ℕ) → IsEnd rest → MayClose rest left → IsEnd left
still_end rest left ends (inl same) = subst IsEnd (sym same) ends
still_end rest left ends (inr (lacks, one)) = short_end left (omega (arith, one))

may_close : (rest left : List ℕ) → LacksGate rest → length rest ≤ length left → length left ≤ 1 → MayClose rest left
may_close rest [] (inl none) long short = inl (sym none)
may_close rest [] (inr one) long short = absurd (omega (arith, ap length one, long))
may_close rest (byte ∷ []) lacks long short = inr (lacks, refl)
may_close rest (byte ∷ more ∷ left) lacks long short = absurd (omega (arith, short))

-- ---- a write of which every part was made
module _ (at : ℕ) (old bytes new : List ℕ) (inside : at ≤ length old) (holds : Holds old at bytes new) where
  abbrev past : List ℕ
  past = drop (at + length bytes) old

  length-new : length new ≡ at + (length bytes + length past)
  length-new = omega (arith, ap length holds, length-append (take at old) (bytes ++ past), length-append bytes past, length-take-le at old inside)

  pub whole_torn : IsTorn at (length bytes) old new
  whole_torn =
      let ends = length-take-le at old inside in
      record {
        before = ap (take at) holds ∙ take_at (take at old) (bytes ++ past) at ends;
        after =
            ap (drop (at + length bytes)) (holds ∙ sym (append_assoc (take at old) bytes past))
            ∙ drop_at (take at old ++ bytes) past (at + length bytes) (omega (arith, length-append (take at old) bytes, ends));
        no_shorter = omega (arith, length-new, length-drop (at + length bytes) old);
        no_longer = omega (arith, length-new, length-drop (at + length bytes) old, inside);
      }

module _ (front : List ℕ) (at : ℕ) (ends : length front ≡ at) where
  same_front : (rest w : List ℕ) → take at w ≡ take at (front ++ rest) → w ≡ front ++ drop at w
  same_front rest w before =
      sym (take-append-drop at w) ∙ ap (λ (t : List ℕ). t ++ drop at w) (before ∙ take_at front rest at ends)

  length-whole : (rest : List ℕ) → length (front ++ rest) ≡ at + length rest
  length-whole rest = omega (arith, length-append front rest, ends)

  -- ---- at a gate
  gated : (gate : ℕ) (more : List ℕ) → front ++ gate ∷ more ≡ (front ++ gate ∷ []) ++ more
  gated gate more = sym (append_assoc front (gate ∷ []) more)

  length-gated : (gate : ℕ) → length (front ++ gate ∷ []) ≡ at + 1
  length-gated gate = length-whole (gate ∷ [])

  behind_gate : (gate : ℕ) (more : List ℕ) → drop (at + 1) (front ++ gate ∷ more) ≡ more
  behind_gate gate more = ap (drop (at + 1)) (gated gate more) ∙ drop_at (front ++ gate ∷ []) more (at + 1) (length-gated gate)

  up_to_gate : (gate : ℕ) (more : List ℕ) → take (at + 1) (front ++ gate ∷ more) ≡ front ++ gate ∷ []
  up_to_gate gate more = ap (take (at + 1)) (gated gate more) ∙ take_at (front ++ gate ∷ []) more (at + 1) (length-gated gate)

  one_left : (more w : List ℕ) → at + 1 ≤ length w → drop (at + 1) w ≡ more → drop at w ≡ get_or w at 0 ∷ more
  one_left more w long behind = drop_more w at 0 (omega (arith, long)) ∙ ap (λ (t : List ℕ). get_or w at 0 ∷ t) behind

  pub torn_gate : (gate : ℕ) (more w : List ℕ) → IsTorn at 1 (front ++ gate ∷ more) w → w ≡ front ++ get_or w at 0 ∷ more
  torn_gate gate more w torn =
      let long : at + 1 ≤ length w = omega (arith, length-whole (gate ∷ more), torn.no_shorter) in
      same_front (gate ∷ more) w torn.before ∙ ap (λ (t : List ℕ). front ++ t) (one_left more w long (torn.after ∙ behind_gate gate more))

  pub written_gate : (gate new_gate : ℕ) (more new : List ℕ) → Holds (front ++ gate ∷ more) at (new_gate ∷ []) new → new ≡ front ++ new_gate ∷ more
  written_gate gate new_gate more new holds =
      holds
      ∙ ap (λ (t : List ℕ). t ++ new_gate ∷ drop (at + 1) (front ++ gate ∷ more)) (take_at front (gate ∷ more) at ends)
      ∙ ap (λ (t : List ℕ). front ++ new_gate ∷ t) (behind_gate gate more)

  -- ---- behind a gate
  pub torn_behind : (gate n : ℕ) (rest w : List ℕ) → IsTorn (at + 1) n (front ++ gate ∷ rest) w → w ≡ front ++ gate ∷ drop (at + 1) w
  torn_behind gate n rest w torn =
      sym (take-append-drop (at + 1) w)
      ∙ ap (λ (t : List ℕ). t ++ drop (at + 1) w) (torn.before ∙ up_to_gate gate rest)
      ∙ sym (gated gate (drop (at + 1) w))

  pub written_behind : (gate : ℕ) (rest bytes new : List ℕ) → Holds (front ++ gate ∷ rest) (at + 1) bytes new → new ≡ front ++ gate ∷ (bytes ++ drop (length bytes) rest)
  written_behind gate rest bytes new holds =
      let old = front ++ gate ∷ rest in
      let past : drop (at + 1 + length bytes) old ≡ drop (length bytes) rest = sym (drop-drop (length bytes) (at + 1) old) ∙ ap (drop (length bytes)) (behind_gate gate rest) in
      holds
      ∙ ap (λ (t : List ℕ). t ++ (bytes ++ drop (at + 1 + length bytes) old)) (up_to_gate gate rest)
      ∙ ap (λ (t : List ℕ). (front ++ gate ∷ []) ++ (bytes ++ t)) past
      ∙ sym (gated gate (bytes ++ drop (length bytes) rest))

  -- ---- at the end
  pub torn_end : (rest w : List ℕ) → length rest ≤ 1 → IsTorn at 1 (front ++ rest) w → w ≡ front ++ drop at w
  torn_end rest w short torn = same_front rest w torn.before

  pub torn_closes : (rest w : List ℕ) → LacksGate rest → length rest ≤ 1 → IsTorn at 1 (front ++ rest) w → MayClose rest (drop at w)
  torn_closes rest w lacks short torn =
      may_close rest (drop at w) lacks (omega (arith, length-drop at w, length-whole rest, torn.no_shorter)) (omega (arith, length-drop at w, length-whole rest, torn.no_longer, short))

  pub written_end : (rest : List ℕ) (gate : ℕ) (new : List ℕ) → length rest ≤ 1 → Holds (front ++ rest) at (gate ∷ []) new → new ≡ front ++ gate ∷ []
  written_end rest gate new short holds =
      holds
      ∙ ap (λ (t : List ℕ). t ++ gate ∷ drop (at + 1) (front ++ rest)) (take_at front rest at ends)
      ∙ ap (λ (t : List ℕ). front ++ gate ∷ t) (drop_all (at + 1) (front ++ rest) (omega (arith, length-whole rest)))

-- ---- writes one behind another, and wider ones
pub take-take : (n m : ℕ) (xs : List ℕ) → n ≤ m → take n (take m xs) ≡ take n xs
take-take zero m xs le = refl
take-take (suc n) zero xs le = absurd (omega (arith, le))
take-take (suc n) (suc m) [] le = refl
take-take (suc n) (suc m) (x ∷ xs) le = ap (λ (t : List ℕ). x ∷ t) (take-take n m xs (omega (arith, le)))

pub take_front : (n m : ℕ) (one other : List ℕ) → n ≤ m → take m one ≡ take m other → take n one ≡ take n other
take_front n m one other le same =
    let cut : (xs : List ℕ) → take n (take m xs) ≡ take n xs = λ xs. take-take n m xs le in
    sym (cut one) ∙ ap (take n) same ∙ cut other

pub drop_behind : (n m : ℕ) (one other : List ℕ) → n ≤ m → drop n one ≡ drop n other → drop m one ≡ drop m other
drop_behind n m one other le same =
    let at : n + (m - n) ≡ m = omega (arith, le) in
    let cut : (xs : List ℕ) → drop (m - n) (drop n xs) ≡ drop m xs = λ xs. drop-drop (m - n) n xs ∙ ap (λ (k : ℕ). drop k xs) at in
    sym (cut one) ∙ ap (drop (m - n)) same ∙ cut other

-- a write is one of a wider range
pub torn_wider : (at n to m : ℕ) (old new : List ℕ) → to ≤ at → at + n ≤ to + m → IsTorn at n old new → IsTorn to m old new
torn_wider at n to m old new front behind torn = record {
  before = take_front to at new old front torn.before;
  after = drop_behind (at + n) (to + m) new old behind torn.after;
  no_shorter = torn.no_shorter;
  no_longer = max_wider (length old) (at + n) (to + m) (length new) behind torn.no_longer;
}

-- two writes are one
pub torn_then : (at n : ℕ) (old mid new : List ℕ) → IsTorn at n old mid → IsTorn at n mid new → IsTorn at n old new
torn_then at n old mid new one two = record {
  before = two.before ∙ one.before;
  after = two.after ∙ one.after;
  no_shorter = omega (arith, one.no_shorter, two.no_shorter);
  no_longer = max_then (length old) (length mid) (at + n) (length new) one.no_longer two.no_longer;
}
