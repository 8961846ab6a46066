-- The laws of what formats are made of.
use Rattle.std.proofs.Common.{◌≡◌, ℕ, zero, suc, ◌^◌, ◌<◌, Bool, true, false, cond, eqb, List, [], ◌∷◌, ◌++◌, length, Some, None, Ok, Err, refl, sym, ap, subst, ◌∙◌, append_assoc, arith, inl, inr}
use Rattle.std.specs.List.{flat_map, AllByRecursion}
use Rattle.std.specs.Int.{w32, to_be_bytes, from_be_bytes}
use Rattle.std.proofs.lemmas.Bool.{cases_lt, eqb-true}
use Rattle.std.proofs.lemmas.Nat.{be_bytes_4, from_be_bytes-to_be_bytes_4}
use Rattle.std.proofs.lemmas.List.Concat.{flat_map-cons}
use Rattle.std.proofs.lemmas.List.{get_or_append_left, get_or_past}
use Rattle.tup_field.specs.declared.fault.RecordFault.TheVariants.{BadField}
use Rattle.tup_field.specs.Format.{Read, Format, ◌>>=◌, IsBytes, carry, IsExact}
use Rattle.tup_field.specs.Parts.{taken, fixed, byte, byte_at, number, number_at, empty, depending, ◌&◌, as_if, checked, fitting, sized, many_at, counted, list, Arms, no_mark, arm, marked_at, OptionFits, option_spelling, option}
use Rattle.tup_field.specs.Steps.{ok_is, bind_ok, behind, Found, Again, Stands, found_then, then_reads, stands_then, taken_found, taken_again, taken_stands}

-- ---- bytes and numbers
front_bytes : (front rest bytes : List ℕ) → bytes ≡ front ++ rest → IsBytes bytes → IsBytes front
front_bytes front rest bytes e fits i =
    elim (cases_lt i (length front)) [
      | inl lt ↦ subst (λ b. b < 256) (get_or_append_left front rest 0 i lt) (subst IsBytes e fits i)
      | inr le ↦ subst (λ b. b < 256) (sym (get_or_past front i 0 le)) (omega arith)
    ]

-- the number that four bytes are, before the bytes behind them
abbrev number_from : List ℕ → List ℕ → Read ℕ
number_from four rest = Ok (from_be_bytes w32 four, rest)

number_found : Found (λ n. n < 2 ^ 32) (to_be_bytes w32) number_at
number_found bytes n rest fits e =
    let x = bind_ok (taken 4 bytes) (λ x. number_from x.0 x.1) (n, rest) e in
    let one = taken_found 4 bytes x.0.0 x.0.1 x.1 in
    let own = front_bytes x.0.0 x.0.1 bytes one.1 fits in
    let low : from_be_bytes w32 x.0.0 < 2 ^ 32 = omega (arith, own 0, own 1, own 2, own 3) in
    let same : to_be_bytes w32 (from_be_bytes w32 x.0.0) ≡ x.0.0 = be_bytes_4 x.0.0 _ one.0 own refl in
    subst (λ (y : ℕ × List ℕ). (y.0 < 2 ^ 32) × (bytes ≡ to_be_bytes w32 y.0 ++ y.1)) (ok_is (from_be_bytes w32 x.0.0, x.0.1) (n, rest) x.2) (low, one.1 ∙ ap (λ (t : List ℕ). t ++ x.0.1) (sym same))

pub number-exact : IsExact number
number-exact = record {
  found = number_found;
  again = λ n rest lt. then_reads (taken 4) number_from (to_be_bytes w32 n ++ rest) (to_be_bytes w32 n) rest (taken_again 4 (to_be_bytes w32 n) rest refl) ∙ ap (λ (m : ℕ). Ok (m, rest)) (from_be_bytes-to_be_bytes_4 n lt);
  stands = stands_then (taken 4) number_from (taken_stands 4) (λ four bytes more whole. refl);
}

pub fixed-exact : (n : ℕ) → IsExact (fixed n)
fixed-exact n = record {
  found = λ bytes a rest fits e. taken_found n bytes a rest e;
  again = λ a rest e. taken_again n a rest e;
  stands = taken_stands n;
}

byte_found : Found (λ b. b < 256) (λ b. b ∷ []) byte_at
byte_found [] b rest fits e = absurd (cc)
byte_found (first ∷ bytes) b rest fits e = subst (λ (y : ℕ × List ℕ). (y.0 < 256) × (first ∷ bytes ≡ y.0 ∷ y.1)) (ok_is (first, bytes) (b, rest) e) (fits 0, refl)

byte_stands : Stands byte_at
byte_stands [] more whole = absurd (whole refl)
byte_stands (b ∷ bytes) more whole = refl

pub byte-exact : IsExact byte
byte-exact = record { found = byte_found; again = λ b rest lt. refl; stands = byte_stands }

pub empty-exact : IsExact empty
empty-exact = record { found = λ bytes a rest fits e. (tt, ap (λ (x : Unit {0} × List ℕ). x.1) (ok_is (tt, bytes) (a, rest) e)); again = λ a rest fits. refl; stands = λ bytes more whole. refl }

-- ---- one behind another

-- the second value of a pair, read behind the first
abbrev pair_next : {A B : Type 0} → (A → Format B) → A → List ℕ → Read (A × B)
pair_next g a rest = (g a).reading rest >>= λ b. Ok ((a, b.0), b.1)

pair_second : {A B : Type 0} (f : Format A) (g : A → Format B) → ((a : A) → IsExact (g a)) → (a : A) (rest : List ℕ) (x : A × B) (last : List ℕ) → f.Fits a → IsBytes rest → pair_next g a rest ≡ Ok (x, last)
    → (depending f g).Fits x × (f.spelling a ++ rest ≡ (depending f g).spelling x ++ last)
pair_second {A} {B} f g exact a rest x last fits bytes e =
    let y = bind_ok ((g a).reading rest) (λ b. Ok ((a, b.0), b.1)) (x, last) e in
    let two = (exact a).found rest y.0.0 y.0.1 bytes y.1 in
    let made : (A × B) × List ℕ = ((a, y.0.0), y.0.1) in
    subst (λ (z : (A × B) × List ℕ). (depending f g).Fits z.0 × (f.spelling a ++ rest ≡ (depending f g).spelling z.0 ++ z.1)) (ok_is made (x, last) y.2)
    ((fits, two.0), ap (λ (t : List ℕ). f.spelling a ++ t) two.1 ∙ sym (append_assoc (f.spelling a) ((g a).spelling y.0.0) y.0.1))

pub depending-exact : {A B : Type 0} (f : Format A) (g : A → Format B) → IsExact f → ((a : A) → IsExact (g a)) → IsExact (depending f g)
depending-exact f g first second = record {
  found = found_then f.Fits f.spelling (depending f g).Fits (depending f g).spelling f.reading (pair_next g) first.found (pair_second f g second);
  again = λ x rest fits.
      ap (depending f g).reading (append_assoc (f.spelling x.0) ((g x.0).spelling x.1) rest)
      ∙ then_reads f.reading (pair_next g) (f.spelling x.0 ++ ((g x.0).spelling x.1 ++ rest)) x.0 ((g x.0).spelling x.1 ++ rest) (first.again x.0 ((g x.0).spelling x.1 ++ rest) fits.0)
      ∙ then_reads (g x.0).reading (λ b last. Ok ((x.0, b), last)) ((g x.0).spelling x.1 ++ rest) x.1 rest ((second x.0).again x.1 rest fits.1);
  stands = stands_then f.reading (pair_next g) first.stands (λ a. stands_then (g a).reading (λ b last. Ok ((a, b), last)) (second a).stands (λ b bytes more whole. refl));
}

pub pair-exact : {A B : Type 0} (f : Format A) (g : Format B) → IsExact f → IsExact g → IsExact (f & g)
pair-exact f g first second = depending-exact f (λ _. g) first (λ _. second)

pub as_if-exact : {A B : Type 0} (to : A → B) (from : B → A) (f : Format A) → ((a : A) → from (to a) ≡ a) → ((b : B) → to (from b) ≡ b) → IsExact f → IsExact (as_if to from f)
as_if-exact {A} {B} to from f back forth exact = record {
  found = found_then f.Fits f.spelling (as_if to from f).Fits (as_if to from f).spelling f.reading (λ a rest. Ok (to a, rest)) exact.found
      (λ a rest b last fits bytes e.
      subst (λ (z : B × List ℕ). f.Fits (from z.0) × (f.spelling a ++ rest ≡ f.spelling (from z.0) ++ z.1)) (ok_is (to a, rest) (b, last) e)
      (subst (λ (z : A). f.Fits z × (f.spelling a ++ rest ≡ f.spelling z ++ rest)) (sym (back a)) (fits, refl)));
  again = λ b rest fits.
      then_reads f.reading (λ a rest. Ok (to a, rest)) (f.spelling (from b) ++ rest) (from b) rest (exact.again (from b) rest fits) ∙ ap (λ (z : B). Ok (z, rest)) (forth b);
  stands = stands_then f.reading (λ a rest. Ok (to a, rest)) exact.stands (λ a bytes more whole. refl);
}

-- a test that did not fail
guard_ok : {A : Type 0} (b : Bool) (x y : A) → cond b (Ok x) (Err BadField) ≡ Ok y → (b ≡ true) × (x ≡ y)
guard_ok true x y e = (refl, cc)
guard_ok false x y e = absurd (cc)

-- the test of a value that was read
abbrev check_next : {A : Type 0} → (A → Bool) → A → List ℕ → Read A
check_next test a rest = cond (test a) (Ok (a, rest)) (Err BadField)

check_stands : {A : Type 0} (test : A → Bool) (a : A) → Stands (check_next test a)
check_stands test a bytes more whole =
    elim (test a) as (λ t. cond t (Ok (a, bytes ++ more)) (Err BadField) ≡ carry more (cond t (Ok (a, bytes)) (Err BadField))) [ true ↦ refl | false ↦ refl ]

pub checked-exact : {A : Type 0} (test : A → Bool) (f : Format A) → IsExact f → IsExact (checked test f)
checked-exact {A} test f exact = record {
  found = found_then f.Fits f.spelling (checked test f).Fits f.spelling f.reading (check_next test) exact.found
      (λ a rest b last fits bytes e.
      let got : (A × List ℕ) × (A × List ℕ) = ((a, rest), (b, last)) in
      let g = guard_ok (test a) got.0 got.1 e in
      subst (λ (z : A × List ℕ). (f.Fits z.0 × (test z.0 ≡ true)) × (f.spelling a ++ rest ≡ f.spelling z.0 ++ z.1)) g.1 ((fits, g.0), refl));
  again = λ a rest fits.
      then_reads f.reading (check_next test) (f.spelling a ++ rest) a rest (exact.again a rest fits.0) ∙ ap (λ t. cond t (Ok (a, rest)) (Err BadField)) fits.1;
  stands = stands_then f.reading (check_next test) exact.stands (check_stands test);
}

pub fitting-exact : {A : Type 0} (Fits : A → Type 0) (f : Format A) → ((a : A) → f.Fits a → Fits a) → ((a : A) → Fits a → f.Fits a) → IsExact f → IsExact (fitting Fits f)
fitting-exact Fits f to from exact = record {
  found = λ bytes a rest own e. let x = exact.found bytes a rest own e in (to a x.0, x.1);
  again = λ a rest fits. exact.again a rest (from a fits);
  stands = exact.stands;
}

-- ---- how many, and so many
pub sized-exact : (count : Format ℕ) → IsExact count → IsExact (sized count)
sized-exact count exact = record {
  found = found_then count.Fits count.spelling (sized count).Fits (sized count).spelling count.reading taken exact.found
      (λ n rest xs last fits bytes e.
      let t = taken_found n rest xs last e in
      subst (λ (k : ℕ). count.Fits k × (count.spelling n ++ rest ≡ (count.spelling k ++ xs) ++ last)) (sym t.0)
      (fits, ap (λ (r : List ℕ). count.spelling n ++ r) t.1 ∙ sym (append_assoc (count.spelling n) xs last)));
  again = λ xs rest fits.
      ap (sized count).reading (append_assoc (count.spelling (length xs)) xs rest)
      ∙ then_reads count.reading taken (count.spelling (length xs) ++ (xs ++ rest)) (length xs) (xs ++ rest) (exact.again (length xs) (xs ++ rest) fits)
      ∙ taken_again (length xs) xs rest refl;
  stands = stands_then count.reading taken exact.stands taken_stands;
}

module _ {A : Type 0} (f : Format A) (exact : IsExact f) where
  -- so many values, each of which has a spelling
  abbrev IsMany : ℕ → List A → Type 0
  IsMany n xs = (length xs ≡ n) × AllByRecursion f.Fits xs

  -- the other values of a list, read behind the first
  abbrev many_next : ℕ → A → List ℕ → Read (List A)
  many_next n first rest = many_at f.reading n rest >>= λ others. Ok (first ∷ others.0, others.1)

  many_found : (n : ℕ) → Found (IsMany n) (flat_map f.spelling) (many_at f.reading n)
  many_found zero bytes xs rest own e =
      subst (λ (z : List A × List ℕ). IsMany 0 z.0 × (bytes ≡ flat_map f.spelling z.0 ++ z.1)) (ok_is ([], bytes) (xs, rest) e) ((refl, tt), refl)
  many_found (suc n) bytes xs rest own e =
      found_then f.Fits f.spelling (IsMany (suc n)) (flat_map f.spelling) f.reading (many_next n) exact.found
      (λ first more ys last fits own e.
      let y = bind_ok (many_at f.reading n more) (λ others. Ok (first ∷ others.0, others.1)) (ys, last) e in
      let two = many_found n more y.0.0 y.0.1 own y.1 in
      let made : List A × List ℕ = (first ∷ y.0.0, y.0.1) in
      let whole : f.spelling first ++ more ≡ flat_map f.spelling (first ∷ y.0.0) ++ y.0.1 =
      ap (λ (t : List ℕ). f.spelling first ++ t) two.1 ∙ sym (append_assoc (f.spelling first) (flat_map f.spelling y.0.0) y.0.1) ∙ ap (λ (t : List ℕ). t ++ y.0.1) (sym (flat_map-cons f.spelling first y.0.0)) in
      subst (λ (z : List A × List ℕ). IsMany (suc n) z.0 × (f.spelling first ++ more ≡ flat_map f.spelling z.0 ++ z.1)) (ok_is made (ys, last) y.2) ((ap suc two.0.0, (fits, two.0.1)), whole))
      bytes xs rest own e

  many_again : (xs : List A) (rest : List ℕ) → AllByRecursion f.Fits xs → many_at f.reading (length xs) (flat_map f.spelling xs ++ rest) ≡ Ok (xs, rest)
  many_again [] rest fits = refl
  many_again (x ∷ xs) rest fits =
      let others = flat_map f.spelling xs ++ rest in
      let regrouped : flat_map f.spelling (x ∷ xs) ++ rest ≡ f.spelling x ++ others = ap (λ (t : List ℕ). t ++ rest) (flat_map-cons f.spelling x xs) ∙ append_assoc (f.spelling x) (flat_map f.spelling xs) rest in
      ap (many_at f.reading (suc (length xs))) regrouped
      ∙ then_reads f.reading (many_next (length xs)) (f.spelling x ++ others) x others (exact.again x others fits.0)
      ∙ then_reads (many_at f.reading (length xs)) (λ ys last. Ok (x ∷ ys, last)) others xs rest (many_again xs rest fits.1)

  many_stands : (n : ℕ) → Stands (many_at f.reading n)
  many_stands zero bytes more whole = refl
  many_stands (suc n) bytes more whole =
      stands_then f.reading (many_next n) exact.stands (λ first. stands_then (many_at f.reading n) (λ ys last. Ok (first ∷ ys, last)) (many_stands n) (λ ys bytes more whole. refl)) bytes more whole

  pub counted-exact : (count : Format ℕ) → IsExact count → IsExact (counted count f)
  counted-exact count number = record {
    found = found_then count.Fits count.spelling (counted count f).Fits (counted count f).spelling count.reading (many_at f.reading) number.found
        (λ n rest xs last fits own e.
        let t = many_found n rest xs last own e in
        subst (λ (k : ℕ). (count.Fits k × AllByRecursion f.Fits xs) × (count.spelling n ++ rest ≡ (count.spelling k ++ flat_map f.spelling xs) ++ last)) (sym t.0.0)
        ((fits, t.0.1), ap (λ (r : List ℕ). count.spelling n ++ r) t.1 ∙ sym (append_assoc (count.spelling n) (flat_map f.spelling xs) last)));
    again = λ xs rest fits.
        ap (counted count f).reading (append_assoc (count.spelling (length xs)) (flat_map f.spelling xs) rest)
        ∙ then_reads count.reading (many_at f.reading) (count.spelling (length xs) ++ (flat_map f.spelling xs ++ rest)) (length xs) (flat_map f.spelling xs ++ rest) (number.again (length xs) (flat_map f.spelling xs ++ rest) fits.0)
        ∙ many_again xs rest fits.1;
    stands = stands_then count.reading (many_at f.reading) number.stands many_stands;
  }

pub list-exact : {A : Type 0} (f : Format A) → IsExact f → IsExact (list f)
list-exact f exact = counted-exact f exact number number-exact

-- ---- one of several, by a mark

-- what is read behind each mark is spelled so with it, and tells only of the bytes up to where it ends
pub record AreArms {B : Type 0} (Fits : B → Type 0) (spelling : B → List ℕ) (arms : Arms B) : Type 0 where
  pub found : (mark : ℕ) (rest : List ℕ) (b : B) (last : List ℕ) → IsBytes rest → arms mark rest ≡ Ok (b, last) → Fits b × (mark ∷ rest ≡ spelling b ++ last)
  pub stands : (mark : ℕ) → Stands (arms mark)

pub no_arms : {B : Type 0} (Fits : B → Type 0) (spelling : B → List ℕ) → AreArms Fits spelling no_mark
no_arms Fits spelling = record { found = λ mark rest b last own e. absurd (cc); stands = λ mark bytes more whole. refl }

module _ {A B : Type 0} (Fits : B → Type 0) (spelling : B → List ℕ) (own : ℕ) (f : Format A) (make : A → B) (others : Arms B) where
  -- the value behind a mark that is its own
  abbrev behind_mark : List ℕ → Read B
  behind_mark rest = f.reading rest >>= λ a. Ok (make a.0, a.1)

  pub with_arm : IsExact f → ((a : A) → f.Fits a → Fits (make a)) → ((a : A) → spelling (make a) ≡ own ∷ f.spelling a) → AreArms Fits spelling others → AreArms Fits spelling (arm own f make others)
  with_arm exact fits spelled more = record {
    found = λ mark rest b last bytes e.
        (elim (eqb mark own) as (λ t. eqb mark own ≡ t → cond t (behind_mark rest) (others mark rest) ≡ Ok (b, last) → Fits b × (mark ∷ rest ≡ spelling b ++ last)) [
          | true ↦ λ same got.
              let x = bind_ok (f.reading rest) (λ a. Ok (make a.0, a.1)) (b, last) got in
              let one = exact.found rest x.0.0 x.0.1 bytes x.1 in
              let whole : mark ∷ rest ≡ spelling (make x.0.0) ++ x.0.1 =
              ap (λ (m : ℕ). m ∷ rest) (eqb-true mark own same) ∙ ap (λ (t : List ℕ). own ∷ t) one.1 ∙ sym (ap (λ (t : List ℕ). t ++ x.0.1) (spelled x.0.0)) in
              subst (λ (z : B × List ℕ). Fits z.0 × (mark ∷ rest ≡ spelling z.0 ++ z.1)) (ok_is (make x.0.0, x.0.1) (b, last) x.2) (fits x.0.0 one.0, whole)
          | false ↦ λ same got. more.found mark rest b last bytes got
        ]) refl e;
    stands = λ mark.
        elim (eqb mark own) as (λ t. Stands (λ rest. cond t (behind_mark rest) (others mark rest))) [
          | true ↦ stands_then f.reading (λ a last. Ok (make a, last)) exact.stands (λ a bytes more whole. refl)
          | false ↦ more.stands mark
        ];
  }

module _ {B : Type 0} (Fits : B → Type 0) (spelling : B → List ℕ) (arms : Arms B) (are : AreArms Fits spelling arms) where
  pub marked_found : Found Fits spelling (marked_at arms)
  marked_found [] b last own e = absurd (cc)
  marked_found (mark ∷ rest) b last own e = are.found mark rest b last (behind (mark ∷ []) rest (mark ∷ rest) refl own) e

  pub marked_stands : Stands (marked_at arms)
  marked_stands [] more whole = absurd (whole refl)
  marked_stands (mark ∷ rest) more whole = are.stands mark rest more whole

option_arms : {A : Type 0} (f : Format A) → IsExact f → AreArms (OptionFits f) (option_spelling f) (arm 0 empty (λ _. None) (arm 1 f (λ a. Some a) no_mark))
option_arms f exact =
    with_arm (OptionFits f) (option_spelling f) 0 empty (λ _. None) (arm 1 f (λ a. Some a) no_mark) empty-exact (λ a fits. tt) (λ a. refl)
    (with_arm (OptionFits f) (option_spelling f) 1 f (λ a. Some a) no_mark exact (λ a fits. fits) (λ a. refl) (no_arms (OptionFits f) (option_spelling f)))

option_again : {A : Type 0} (f : Format A) → IsExact f → Again (OptionFits f) (option_spelling f) (option f).reading
option_again f exact None rest fits = refl
option_again f exact (Some a) rest fits = then_reads f.reading (λ a last. Ok (Some a, last)) (f.spelling a ++ rest) a rest (exact.again a rest fits)

pub option-exact : {A : Type 0} (f : Format A) → IsExact f → IsExact (option f)
option-exact f exact = record {
  found = marked_found (OptionFits f) (option_spelling f) _ (option_arms f exact);
  again = option_again f exact;
  stands = marked_stands (OptionFits f) (option_spelling f) _ (option_arms f exact);
}
