-- Spellings are apart: what stands at the front of bytes stands there in one way.
use Rattle.std.proofs.Common.{◌≡◌, ℕ, ◌<◌, ◌^◌, List, [], ◌∷◌, ◌++◌, length, take, drop, get_or, refl, sym, ap, subst, ◌∙◌, append_assoc, arith, inl, inr}
use Rattle.std.proofs.lemmas.Bool.{cases_lt}
use Rattle.std.proofs.lemmas.List.{take_at, drop_at, take-append-drop, get_or_append_left, get_or_past}
use Rattle.std.proofs.lemmas.Nat.{be_bytes_2, be_bytes_4}
use Rattle.byteorder.specs.Endian.{big_bytes, big_number}
use Rattle.byteorder.specs.Numbers.{big_number-reads_back, big_from-lt, length-bytes_high_first}
use Rattle.std.specs.List.{flat_map, AllByRecursion, IsSplitAt}
use Rattle.std.proofs.lemmas.List.Concat.{flat_map-cons}
use Rattle.tup_table.specs.Front.{Front, NoFront}
use Rattle.tup_table.specs.Store.{sized, IsSized}

abbrev pub IsBytes : List ℕ → Type 0
IsBytes bytes = (i : ℕ) → get_or bytes i 0 < 256

-- ---- bytes behind their length
-- the length, and what stands behind it
sized_split : (n : ℕ) (a rest : List ℕ) → sized n a ++ rest ≡ big_bytes n (length a) ++ (a ++ rest)
sized_split n a rest = append_assoc (big_bytes n (length a)) a rest

sized_number : (n : ℕ) (a rest : List ℕ) → IsSized n a → big_number n (sized n a ++ rest) ≡ length a
sized_number n a rest fits = ap (big_number n) (sized_split n a rest) ∙ big_number-reads_back n (length a) (a ++ rest) fits

sized_behind : (n : ℕ) (a rest : List ℕ) → drop n (sized n a ++ rest) ≡ a ++ rest
sized_behind n a rest = ap (drop n) (sized_split n a rest) ∙ drop_at (big_bytes n (length a)) (a ++ rest) n (length-bytes_high_first n (length a))

pub sized_one : (n : ℕ) (a b x y : List ℕ) → IsSized n a → IsSized n b → sized n a ++ x ≡ sized n b ++ y → (a ≡ b) × (x ≡ y)
sized_one n a b x y fa fb e =
    let long : length a ≡ length b = sym (sized_number n a x fa) ∙ ap (big_number n) e ∙ sized_number n b y fb in
    let behind : a ++ x ≡ b ++ y = sym (sized_behind n a x) ∙ ap (drop n) e ∙ sized_behind n b y in (
      sym (take_at a x (length a) refl) ∙ ap (take (length a)) behind ∙ take_at b y (length a) (sym long),
      sym (drop_at a x (length a) refl) ∙ ap (drop (length a)) behind ∙ drop_at b y (length a) (sym long),
    )

-- a number's bytes are those that it was read from
abbrev ReadsBack : ℕ → Type 0
ReadsBack n = (bytes : List ℕ) → length bytes ≡ n → IsBytes bytes → big_bytes n (big_number n bytes) ≡ bytes

back_2 : ReadsBack 2
back_2 bytes long own = be_bytes_2 bytes (big_number 2 bytes) long own (omega arith)

back_4 : ReadsBack 4
back_4 bytes long own = be_bytes_4 bytes (big_number 4 bytes) long own (omega arith)

front_bytes : (front rest bytes : List ℕ) → bytes ≡ front ++ rest → IsBytes bytes → IsBytes front
front_bytes front rest bytes e own i =
    elim (cases_lt i (length front)) [
      | inl lt ↦ subst (λ b. b < 256) (get_or_append_left front rest 0 i lt) (subst IsBytes e own i)
      | inr le ↦ subst (λ b. b < 256) (sym (get_or_past front i 0 le)) (omega arith)
    ]

-- what was cut off a front, and then cut by the number there
sized_front : (n : ℕ) → ReadsBack n → (bytes front behind item rest : List ℕ) (mid : ℕ) → IsBytes bytes → IsSplitAt bytes n front behind → mid ≡ big_number n front → IsSplitAt behind mid item rest
    → Front (IsSized n) (sized n) bytes item rest
sized_front n back bytes front behind item rest mid own first says second =
    let cut : bytes ≡ front ++ behind = sym (ap (λ (t : List ℕ). t ++ behind) first.1 ∙ ap (λ (t : List ℕ). take n bytes ++ t) first.2 ∙ take-append-drop n bytes) in
    let split : behind ≡ item ++ rest = sym (ap (λ (t : List ℕ). t ++ rest) second.1 ∙ ap (λ (t : List ℕ). take mid behind ++ t) second.2 ∙ take-append-drop mid behind) in
    let long : length item ≡ big_number n front = second.3 ∙ says in
    let bytes_there = front_bytes front behind bytes cut own in
    let number : big_bytes n (length item) ≡ front = ap (big_bytes n) long ∙ back front first.3 bytes_there in
    let short : big_number n front < 256 ^ n = big_from-lt 0 n front bytes_there in (
      subst (λ (k : ℕ). k < 256 ^ n) (sym long) short,
      cut ∙ ap (λ (t : List ℕ). front ++ t) split ∙ ap (λ (t : List ℕ). t ++ (item ++ rest)) (sym number) ∙ sym (sized_split n item rest),
    )

pub short_front : (bytes front behind item rest : List ℕ) (mid : ℕ) → IsBytes bytes → IsSplitAt bytes 2 front behind → mid ≡ big_number 2 front → IsSplitAt behind mid item rest
    → Front (IsSized 2) (sized 2) bytes item rest
short_front = sized_front 2 back_2

pub long_front : (bytes front behind item rest : List ℕ) (mid : ℕ) → IsBytes bytes → IsSplitAt bytes 4 front behind → mid ≡ big_number 4 front → IsSplitAt behind mid item rest
    → Front (IsSized 4) (sized 4) bytes item rest
long_front = sized_front 4 back_4

-- ---- one behind another
pub heads : (a b : ℕ) (x y : List ℕ) → a ∷ x ≡ b ∷ y → a ≡ b
heads a b x y e = cc

pub tails : (a b : ℕ) (x y : List ℕ) → a ∷ x ≡ b ∷ y → x ≡ y
tails a b x y e = cc

-- no two spellings stand at one front
abbrev pub IsApart : {A : Type 0} → (A → Type 0) → (A → List ℕ) → Type 0
IsApart {A} Fits spelling = (a b : A) (x y : List ℕ) → Fits a → Fits b → spelling a ++ x ≡ spelling b ++ y → (a ≡ b) × (x ≡ y)

pub all_more : {A : Type 0} (Fits : A → Type 0) (xs : List A) (x : A) → AllByRecursion Fits xs → Fits x → AllByRecursion Fits (xs ++ x ∷ [])
all_more Fits [] x all one = (one, tt)
all_more Fits (y ∷ xs) x all one = (all.0, all_more Fits xs x all.1 one)

module _ {A : Type 0} (spelling : A → List ℕ) where
  pub first_out : (x : A) (xs : List A) (rest : List ℕ) → flat_map spelling (x ∷ xs) ++ rest ≡ spelling x ++ (flat_map spelling xs ++ rest)
  first_out x xs rest = ap (λ (t : List ℕ). t ++ rest) (flat_map-cons spelling x xs) ∙ append_assoc (spelling x) (flat_map spelling xs) rest

  pub last_out : (xs : List A) (x : A) (rest : List ℕ) → flat_map spelling (xs ++ x ∷ []) ++ rest ≡ flat_map spelling xs ++ (spelling x ++ rest)
  last_out [] x rest = first_out x [] rest
  last_out (y ∷ xs) x rest =
      first_out y (xs ++ x ∷ []) rest ∙ ap (λ (t : List ℕ). spelling y ++ t) (last_out xs x rest) ∙ sym (first_out y xs (spelling x ++ rest))

  -- values one behind the other, up to where none stands, are these and no others
  pub many_one : (Fits : A → Type 0) → IsApart Fits spelling → (xs ys : List A) (r s : List ℕ) → AllByRecursion Fits xs → AllByRecursion Fits ys → NoFront Fits spelling r → NoFront Fits spelling s
      → flat_map spelling xs ++ r ≡ flat_map spelling ys ++ s → (xs ≡ ys) × (r ≡ s)
  many_one Fits apart [] [] r s fx fy nr ns e = (refl, e)
  many_one Fits apart [] (y ∷ ys) r s fx fy nr ns e = absurd (nr y (flat_map spelling ys ++ s) fy.0 (e ∙ first_out y ys s))
  many_one Fits apart (x ∷ xs) [] r s fx fy nr ns e = absurd (ns x (flat_map spelling xs ++ r) fx.0 (sym e ∙ first_out x xs r))
  many_one Fits apart (x ∷ xs) (y ∷ ys) r s fx fy nr ns e =
      let one = apart x y (flat_map spelling xs ++ r) (flat_map spelling ys ++ s) fx.0 fy.0 (sym (first_out x xs r) ∙ e ∙ first_out y ys s) in
      let more = many_one Fits apart xs ys r s fx.1 fy.1 nr ns one.1 in
      (λ i. one.0 i ∷ more.0 i, more.1)
