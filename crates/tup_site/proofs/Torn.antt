-- What a crash may leave of the store after a write or a cut comes by one step from what it may have left before.
use Rattle.std.proofs.Common.{◌≡◌, ◌⊎◌, inl, inr, ⊎_elim, ℕ, ◌+◌, ◌<◌, ◌≤◌, ◌-◌, min, max, false, ◌&&◌, List, ◌∷◌, ◌++◌, length, take, drop, get_or, nat_le, nat_lt, refl, sym, ap, ◌∙◌, arith, length-append, length-take, length-drop}
use Rattle.std.proofs.lemmas.Bool.{cases_lt, or_from}
use Rattle.std.proofs.lemmas.Bool.Decides.{nat_tests}
use Rattle.std.proofs.lemmas.List.{same_lists, get_or-take, get_or-drop, get_or_append_left, get_or-append_right}
use Rattle.tup_site.specs.World.{World}
use Rattle.tup_site.specs.Store.{IsTorn}
use Rattle.tup_site.specs.Crash.{Follows, WriteStep, CutStep}
use Rattle.tup_site.specs.State.{State, IsImage, is_written, overwritten, with_write, with_cut}
use Rattle.tup_site.specs.Sound.{IsSound}

-- ---- bytes between two others

-- the bytes of one list from a place on, that many of them, in the place of another's
abbrev patched : List ℕ → List ℕ → ℕ → ℕ → List ℕ
patched bytes store at k = take at bytes ++ (take k (drop at store) ++ drop (at + k) bytes)

module _ (bytes store : List ℕ) (at k : ℕ) (within : at + k ≤ length store) (long : (k ≡ 0) ⊎ (at ≤ length bytes)) where
  front_length : (at ≤ length bytes) → length (take at bytes) ≡ at
  front_length le = omega (arith, length-take at bytes)

  middle_length : length (take k (drop at store)) ≡ k
  middle_length = omega (arith, length-take k (drop at store), length-drop at store)

  abbrev rest : List ℕ
  rest = take k (drop at store) ++ drop (at + k) bytes

  length_none : k ≡ 0 → length (patched bytes store at k) ≡ length bytes
  length_none none =
      omega (arith, none, length-append (take at bytes) rest, length-append (take k (drop at store)) (drop (at + k) bytes), length-take at bytes, middle_length, length-drop (at + k) bytes)

  length_some : at ≤ length bytes → length (patched bytes store at k) ≡ max (length bytes) (at + k)
  length_some le =
      omega (arith, le, length-append (take at bytes) rest, length-append (take k (drop at store)) (drop (at + k) bytes), front_length le, middle_length, length-drop (at + k) bytes)

  before : (i d : ℕ) → i < at → i < length bytes → get_or (patched bytes store at k) i d ≡ get_or bytes i d
  before i d low below =
      get_or_append_left (take at bytes) (take k (drop at store) ++ drop (at + k) bytes) d i (omega (arith, length-take at bytes)) ∙ get_or-take at bytes i d low

  middle : (i d : ℕ) → at ≤ i → i < at + k → get_or (patched bytes store at k) i d ≡ get_or store i d
  middle i d low high =
      let le : at ≤ length bytes = ⊎_elim (λ none. absurd (omega (arith, none, low, high))) (λ le. le) long in
      let back : at + (i - at) ≡ i = omega arith in
      get_or-append_right (take at bytes) (take k (drop at store) ++ drop (at + k) bytes) at i d (front_length le) low
      ∙ get_or_append_left (take k (drop at store)) (drop (at + k) bytes) d (i - at) (omega (arith, middle_length))
      ∙ get_or-take k (drop at store) (i - at) d (omega arith)
      ∙ get_or-drop at store (i - at) d
      ∙ ap (λ j. get_or store j d) back

  behind : (i d : ℕ) → at + k ≤ i → i < length bytes → get_or (patched bytes store at k) i d ≡ get_or bytes i d
  behind i d low below =
      let le : at ≤ length bytes = omega arith in
      let back : (at + k) + ((i - at) - k) ≡ i = omega arith in
      get_or-append_right (take at bytes) (take k (drop at store) ++ drop (at + k) bytes) at i d (front_length le) (omega arith)
      ∙ get_or-append_right (take k (drop at store)) (drop (at + k) bytes) k (i - at) d middle_length (omega arith)
      ∙ get_or-drop (at + k) bytes ((i - at) - k) d
      ∙ ap (λ j. get_or bytes j d) back

-- ---- a write

over_front : (store : List ℕ) (at : ℕ) (bytes : List ℕ) (i d : ℕ) → at ≤ length store → i < at → get_or (overwritten store at bytes) i d ≡ get_or store i d
over_front store at bytes i d le low =
    get_or_append_left (take at store) (bytes ++ drop (at + length bytes) store) d i (omega (arith, length-take at store)) ∙ get_or-take at store i d low

over_behind : (store : List ℕ) (at : ℕ) (bytes : List ℕ) (i d : ℕ) → at ≤ length store → at + length bytes ≤ i → get_or (overwritten store at bytes) i d ≡ get_or store i d
over_behind store at bytes i d le high =
    let front : length (take at store) ≡ at = omega (arith, length-take at store) in
    let back : (at + length bytes) + ((i - at) - length bytes) ≡ i = omega arith in
    get_or-append_right (take at store) (bytes ++ drop (at + length bytes) store) at i d front (omega arith)
    ∙ get_or-append_right bytes (drop (at + length bytes) store) (length bytes) (i - at) d refl (omega arith)
    ∙ get_or-drop (at + length bytes) store ((i - at) - length bytes) d
    ∙ ap (λ j. get_or store j d) back

outside : (at n place : ℕ) → (place < at) ⊎ (at + n ≤ place) → (nat_le at place && nat_lt place (at + n)) ≡ false
outside at n place (inl low) = grind (arith, nat_tests)
outside at n place (inr high) = grind (arith, nat_tests)

module _ (s : State) (at : ℕ) (bytes : List ℕ) (w : World) (is : IsSound s) (le : at ≤ length s.world.store) (image : IsImage (with_write s at bytes) w) where
  abbrev n : ℕ
  n = length bytes

  -- how much of the written range has to be as it was
  abbrev k : ℕ
  k = min n (s.floor - at)

  within : at + k ≤ length s.world.store
  within = omega (arith, is.no_shorter, le)

  long : (k ≡ 0) ⊎ (at ≤ length w.store)
  long = elim (cases_lt at s.floor) [
    | inl low ↦ inr (omega (arith, image.no_shorter, low))
    | inr high ↦ inl (omega (arith, high))
  ]

  abbrev inner : List ℕ
  inner = patched w.store s.world.store at k

  length-inner : length inner ≡ length w.store
  length-inner = elim long [
    | inl none ↦ length_none w.store s.world.store at k within long none
    | inr enough ↦ omega (arith, length_some w.store s.world.store at k within long enough, enough, image.no_shorter)
  ]

  abbrev left : List ℕ
  left = take s.height inner

  length-left : length left ≡ min s.height (length w.store)
  length-left = omega (arith, length-take s.height inner, length-inner)

  high : length s.world.store ≤ s.height
  high = is.no_longer

  elsewhere : (i d : ℕ) → i < s.height → i < length w.store → (i < at) ⊎ (at + k ≤ i) → get_or left i d ≡ get_or w.store i d
  elsewhere i d low below (inl front) = get_or-take s.height inner i d low ∙ before w.store s.world.store at k within long i d front below
  elsewhere i d low below (inr back) = get_or-take s.height inner i d low ∙ behind w.store s.world.store at k within long i d back below

  not_written : (place : ℕ) → (place < at) ⊎ (at + n ≤ place) → is_written s.written place ≡ false → is_written ((at, n) ∷ s.written) place ≡ false
  not_written place out none = or_from _ _ (outside at n place out) none

  synced : (place d : ℕ) → place < s.floor → is_written s.written place ≡ false → get_or left place d ≡ get_or s.world.store place d
  synced place d below none = elim (cases_lt place at) [
    | inl front ↦
        elsewhere place d (omega (arith, below, is.no_shorter, high)) (omega (arith, below, image.no_shorter)) (inl front)
        ∙ image.synced place d below (not_written place (inl front) none) ∙ over_front s.world.store at bytes place d le front
    | inr after ↦ elim (cases_lt place (at + n)) [
      | inl inside ↦ get_or-take s.height inner place d (omega (arith, below, is.no_shorter, high)) ∙ middle w.store s.world.store at k within long place d after (omega (arith, below, inside, after))
      | inr back ↦
          elsewhere place d (omega (arith, below, is.no_shorter, high)) (omega (arith, below, image.no_shorter)) (inr (omega (arith, back)))
          ∙ image.synced place d below (not_written place (inr back) none) ∙ over_behind s.world.store at bytes place d le back
    ]
  ]

  no_longer : length w.store ≤ max s.height (at + n)
  no_longer = image.no_longer

  torn : IsTorn at n left w.store
  torn = record {
    before = same_lists (take at w.store) (take at left) (omega (arith, length-take at w.store, length-take at left, length-left, le, high)) (λ i d below.
        let front : i < at = omega (arith, below, length-take at w.store) in
        let inside : i < length w.store = omega (arith, below, length-take at w.store) in
        get_or-take at w.store i d front ∙ sym (get_or-take at left i d front ∙ elsewhere i d (omega (arith, front, le, high)) inside (inl front)));
    after = same_lists (drop (at + n) w.store) (drop (at + n) left) (omega (arith, length-drop (at + n) w.store, length-drop (at + n) left, length-left, no_longer)) (λ i d below.
        let inside : at + n + i < length w.store = omega (arith, below, length-drop (at + n) w.store) in
        get_or-drop (at + n) w.store i d ∙ sym (get_or-drop (at + n) left i d ∙ elsewhere (at + n + i) d (omega (arith, inside, no_longer)) inside (inr (omega arith))));
    no_shorter = omega (arith, length-left);
    no_longer = omega (arith, length-left, no_longer);
  }

  pub written_step : Follows (WriteStep at n) (IsImage s) w
  written_step = (
    record w { store = left },
    record {
      tree = image.tree;
      joins = image.joins;
      settled = image.settled;
      no_shorter = omega (arith, length-left, image.no_shorter, is.no_shorter, high);
      no_longer = omega (arith, length-left);
      synced = synced;
    },
    record { torn = torn; tree = refl },
  )

-- ---- a cut

module _ (s : State) (len : ℕ) (w : World) (is : IsSound s) (image : IsImage (with_cut s len) w) where
  -- a cut behind all that is durable
  past : s.floor ≤ len → IsImage s w
  past le = record {
    tree = image.tree;
    joins = image.joins;
    settled = image.settled;
    no_shorter = omega (arith, image.no_shorter, le);
    no_longer = image.no_longer;
    synced = λ place d below none. image.synced place d (omega (arith, below, le)) none ∙ get_or-take len s.world.store place d (omega (arith, below, le));
  }

  module _ (low : len < s.floor) where
    abbrev kept : List ℕ
    kept = patched w.store s.world.store len (s.floor - len)

    in_store : len + (s.floor - len) ≤ length s.world.store
    in_store = omega (arith, low, is.no_shorter)

    enough : len ≤ length w.store
    enough = omega (arith, image.no_shorter, low)

    length-kept : length kept ≡ max (length w.store) s.floor
    length-kept = omega (arith, length_some w.store s.world.store len (s.floor - len) in_store (inr enough) enough, low)

    kept_synced : (place d : ℕ) → place < s.floor → is_written s.written place ≡ false → get_or kept place d ≡ get_or s.world.store place d
    kept_synced place d below none = elim (cases_lt place len) [
      | inl front ↦
          before w.store s.world.store len (s.floor - len) in_store (inr enough) place d front (omega (arith, front, enough))
          ∙ image.synced place d (omega (arith, below, front)) none ∙ get_or-take len s.world.store place d front
      | inr behind_cut ↦ middle w.store s.world.store len (s.floor - len) in_store (inr enough) place d behind_cut (omega (arith, below, low))
    ]

    front : take len w.store ≡ take len kept
    front = same_lists (take len w.store) (take len kept) (omega (arith, length-take len w.store, length-take len kept, length-kept)) (λ i d below.
        let low' : i < len = omega (arith, below, length-take len w.store) in
        let inside : i < length w.store = omega (arith, below, length-take len w.store) in
        get_or-take len w.store i d low' ∙ sym (get_or-take len kept i d low' ∙ before w.store s.world.store len (s.floor - len) in_store (inr enough) i d low' inside))

    cut_back : Follows (CutStep len) (IsImage s) w
    cut_back = (
      record w { store = kept },
      record {
        tree = image.tree;
        joins = image.joins;
        settled = image.settled;
        no_shorter = omega (arith, length-kept);
        no_longer = omega (arith, length-kept, image.no_longer, is.no_shorter, is.no_longer);
        synced = kept_synced;
      },
      record { front = front; no_longer = omega (arith, length-kept); tree = refl },
    )

  pub cut_step : IsImage s w ⊎ Follows (CutStep len) (IsImage s) w
  cut_step = elim (cases_lt len s.floor) [
    | inl low ↦ inr (cut_back low)
    | inr le ↦ inl (past le)
  ]
