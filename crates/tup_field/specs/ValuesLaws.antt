-- The laws of truths, texts, paths and stamps.
use Rattle.std.proofs.Common.{◌≡◌, ◌&&◌, ℕ, ◌<◌, Bool, true, false, nat_le, List, [], ◌∷◌, length, refl, arith}
use Rattle.std.specs.List.{All, AllByRecursion}
use Rattle.std.specs.Str.{is_utf8}
use Rattle.std.proofs.lemmas.Bool.Decides.{nat_tests}
use Rattle.std.proofs.lemmas.List.Elements.{All-head, All-tail, All-from_recursion}
use Rattle.std.proofs.lemmas.Str.{IsUtf8-from_is_utf8, is_utf8-from_IsUtf8}
use Rattle.tup_path.specs.Name.{Names, IsVisibleName, IsPath}
use Rattle.tup_path.specs.Resolve.{is_visible}
use Rattle.tup_path.proofs.Walks.{visible_again}
use Rattle.tup_path.proofs.Names.{visible_name}
use Rattle.tup_field.specs.Format.{IsExact}
use Rattle.tup_field.specs.Parts.{fixed, byte, number, empty, sized, counted, no_mark, arm}
use Rattle.tup_field.specs.Values.{truth_spelling, truth, text, name, depth, path, stamp}
use Rattle.tup_field.specs.Steps.{Again}
use Rattle.tup_field.specs.PartsLaws.{fixed-exact, byte-exact, number-exact, empty-exact, as_if-exact, checked-exact, fitting-exact, sized-exact, counted-exact, AreArms, no_arms, with_arm, marked_found, marked_stands}

-- each truth has a spelling
abbrev AnyTruth : Bool → Type 0
AnyTruth b = Unit {0}

truth_arms : AreArms AnyTruth truth_spelling (arm 0 empty (λ _. false) (arm 1 empty (λ _. true) no_mark))
truth_arms =
    with_arm AnyTruth truth_spelling 0 empty (λ _. false) (arm 1 empty (λ _. true) no_mark) empty-exact (λ a fits. tt) (λ a. refl)
    (with_arm AnyTruth truth_spelling 1 empty (λ _. true) no_mark empty-exact (λ a fits. tt) (λ a. refl) (no_arms AnyTruth truth_spelling))

truth_again : Again AnyTruth truth_spelling truth.reading
truth_again false rest fits = refl
truth_again true rest fits = refl

pub truth-exact : IsExact truth
truth-exact = record {
  found = marked_found AnyTruth truth_spelling _ truth_arms;
  again = truth_again;
  stands = marked_stands AnyTruth truth_spelling _ truth_arms;
}

pub text-exact : IsExact text
text-exact = checked-exact is_utf8 (sized number) (sized-exact number number-exact)

-- ---- paths
and_true : (a b : Bool) → (a && b) ≡ true → (a ≡ true) × (b ≡ true)
and_true true b e = (refl, e)
and_true false b e = absurd (cc)

both_true : (a b : Bool) → a ≡ true → b ≡ true → (a && b) ≡ true
both_true true b a e = e
both_true false b a e = absurd (cc)

-- a name with a spelling is a visible one
pub name_is : (n : List ℕ) → name.Fits n → IsVisibleName n
name_is n fits =
    let seen = and_true (is_utf8 n) (is_visible n) fits.1 in
    visible_name n (IsUtf8-from_is_utf8 n seen.0) (let short = fits.0 in omega arith) seen.1

pub name_fits : (n : List ℕ) → IsVisibleName n → name.Fits n
name_fits n is = (let short = is.not_long in omega arith, both_true (is_utf8 n) (is_visible n) (is_utf8-from_IsUtf8 n is.text) (visible_again n is))

names_are : (names : Names) → AllByRecursion name.Fits names → AllByRecursion IsVisibleName names
names_are [] fits = tt
names_are (n ∷ names) fits = (name_is n fits.0, names_are names fits.1)

names_fit : (names : Names) → All IsVisibleName names → AllByRecursion name.Fits names
names_fit [] each = tt
names_fit (n ∷ names) each = (name_fits n (All-head IsVisibleName n names each), names_fit names (All-tail IsVisibleName n names each))

path_is : (names : Names) → (counted depth name).Fits names → IsPath names
path_is names fits = record {
  names = All-from_recursion IsVisibleName names (names_are names fits.1);
  depth = let deep = fits.0.1 in grind (arith, nat_tests);
}

path_fits : (names : Names) → IsPath names → (counted depth name).Fits names
path_fits names is =
    let deep = is.depth in
    let short : length names < 256 = omega arith in
    let test : nat_le (length names) 32 ≡ true = grind (arith, nat_tests) in
    ((short, test), names_fit names is.names)

pub path-exact : IsExact path
path-exact =
    fitting-exact IsPath (counted depth name) path_is path_fits
    (counted-exact name (checked-exact (λ n. is_utf8 n && is_visible n) (sized byte) (sized-exact byte byte-exact)) depth (checked-exact (λ depth. nat_le depth 32) byte byte-exact))

pub stamp-exact : IsExact stamp
stamp-exact = as_if-exact (λ bytes. record { 0 = bytes }) (λ stamp. stamp.0) (fixed 32) (λ bytes. refl) (λ stamp. refl) (fixed-exact 32)
