-- What lies below what, case by case.
use Rattle.std.proofs.Common.{◌≡◌, ◌≢◌, ◌⊎◌, inl, inr, ℕ, ◌<◌, Ok, Err, arith, Bool, true, false, ◌&&◌, ◌||◌, cond, List, [], ◌∷◌, ◌++◌, length, refl, sym, ap, subst, ◌∙◌}
use Rattle.std.specs.Prelude.{◌↔◌, IsTrue, bytes_eq}
use Rattle.std.specs.List.{list_any}
use Rattle.std.specs.Result.{result_ok}
use Rattle.std.proofs.lemmas.Bool.{and_from, and_parts, false≢true, or_left, or_right}
use Rattle.std.proofs.lemmas.List.Folds.{list_any-append}
use Rattle.indexmap.specs.IndexSet.{insert_key}
use Rattle.tup_path.specs.Name.{Names}
use Rattle.tup_path.specs.Order.{same_path}
use Rattle.tup_path.specs.Resolve.{above}
use Rattle.tup_path.specs.Tree.{IsBelow}
use Rattle.tup_path.specs.declared.fault.PathFault.{PathFault}
use Rattle.tup_path.proofs.Walks.{above_last}
use Rattle.tup_path.proofs.Same.{same_bytes-decides, same_path-decides}
use Rattle.tup_rule.specs.Rule.{among}
use Rattle.tup_rule.specs.declared.draft.Draft.{Draft}
use Rattle.tup_rule_line.specs.Making.{made_by, is_made}
use Rattle.tup_rule_line.specs.Below.{is_below, AreAbove, IsClosed}

and_false : (a : Bool) → (a && false) ≡ false
and_false true = refl
and_false false = refl

and_or : (a b c : Bool) → (a && (b || c)) ≡ ((a && b) || (a && c))
and_or true b c = refl
and_or false b c = refl

-- a list is empty, or it has a last item
pub last_item : {A : Type 0} (xs : List A) → (xs ≡ []) ⊎ ((front : List A) × (last : A) × (xs ≡ front ++ last ∷ []))
last_item [] = inl refl
last_item (x ∷ xs) = elim (last_item xs) [
  | inl none ↦ inr ([], x, ap (λ l. x ∷ l) none)
  | inr some ↦ inr (x ∷ some.0, some.1, ap (λ l. x ∷ l) some.2)
]

pub nothing_below : (dir : Names) → is_below dir [] ≡ false
nothing_below [] = refl
nothing_below (name ∷ dir) = refl

-- a path lies below just its folder and what that lies below
pub below_named : (dir up : Names) (name : List ℕ) → is_below dir (up ++ name ∷ []) ≡ (same_path dir up || is_below dir up)
below_named [] [] name = refl
below_named [] (first ∷ up) name = refl
below_named (first ∷ dir) [] name = ap (λ b. bytes_eq first name && b) (nothing_below dir) ∙ and_false (bytes_eq first name)
below_named (first ∷ dir) (second ∷ up) name =
    ap (λ b. bytes_eq first second && b) (below_named dir up name) ∙ and_or (bytes_eq first second) (same_path dir up) (is_below dir up)

-- a folder doesn't lie below itself
pub not_below_itself : (dir : Names) → is_below dir dir ≡ false
not_below_itself [] = refl
not_below_itself (name ∷ dir) = ap (λ b. bytes_eq name name && b) (not_below_itself dir) ∙ and_false (bytes_eq name name)

-- what lies below a folder lies below what that lies below
pub below_through : (dir up path : Names) → is_below dir up ≡ true → is_below up path ≡ true → is_below dir path ≡ true
below_through [] up [] over under = absurd (false≢true (sym (nothing_below up) ∙ under))
below_through [] up (name ∷ path) over under = refl
below_through (first ∷ dir) [] path over under = absurd (false≢true over)
below_through (first ∷ dir) (second ∷ up) [] over under = absurd (false≢true under)
below_through (first ∷ dir) (second ∷ up) (name ∷ path) over under =
    let front = and_parts (bytes_eq first second) (is_below dir up) over in
    let back = and_parts (bytes_eq second name) (is_below up path) under in
    and_from (bytes_eq first name) (is_below dir path) (ap (λ b. bytes_eq b name) ((same_bytes-decides first second).0 front.0) ∙ back.0) (below_through dir up path front.1 back.1)

-- the test says what lies below
pub below_is : (folder path : Names) → is_below folder path ≡ true → IsBelow folder path
below_is [] [] e = absurd (false≢true e)
below_is [] (name ∷ path) e = (name ∷ path, (λ none. absurd (cc)), refl)
below_is (first ∷ folder) [] e = absurd (false≢true e)
below_is (first ∷ folder) (name ∷ path) e =
    let both = and_parts (bytes_eq first name) (is_below folder path) e in
    let rest = below_is folder path both.1 in
    (rest.0, rest.1, ap (λ n. n ∷ path) (sym ((same_bytes-decides first name).0 both.0)) ∙ ap (λ p. first ∷ p) rest.2)

pub below_so : (folder path : Names) → IsBelow folder path → is_below folder path ≡ true
below_so folder path (rest, some, is) = ap (is_below folder) is ∙ behind folder rest some
  where
    behind : (folder rest : Names) → rest ≢ [] → is_below folder (folder ++ rest) ≡ true
    behind [] [] some = absurd (some refl)
    behind [] (name ∷ rest) some = refl
    behind (first ∷ folder) rest some = ap (λ b. b && is_below folder (folder ++ rest)) ((same_bytes-decides first first).1 refl) ∙ behind folder rest some

both_ways : (a b : Bool) → (a ≡ true → b ≡ true) → (b ≡ true → a ≡ true) → a ≡ b
both_ways true b to back = sym (to refl)
both_ways false true to back = back refl
both_ways false false to back = refl

-- a test of what lies below a folder is the one here
pub below_test : (tested : Bool) (folder path : Names) → (IsTrue tested ↔ IsBelow folder path) → tested ≡ is_below folder path
below_test tested folder path says = both_ways tested (is_below folder path) (λ e. below_so folder path (says.0 e)) (λ e. says.1 (below_is folder path e))

pub below_longer : (folder path : Names) → is_below folder path ≡ true → length folder < length path
below_longer [] [] e = absurd (false≢true e)
below_longer [] (name ∷ path) e = omega arith
below_longer (first ∷ folder) [] e = absurd (false≢true e)
below_longer (first ∷ folder) (name ∷ path) e = let rest = below_longer folder path (and_parts (bytes_eq first name) (is_below folder path) e).1 in omega arith

-- a path is the top, or what stands in the folder above it under a name
pub above_is : (path folder : Names) → above path ≡ Ok folder → (name : List ℕ) × (path ≡ folder ++ name ∷ [])
above_is path folder e = by (last_item path)
  where
    by : (path ≡ []) ⊎ ((front : Names) × (last : List ℕ) × (path ≡ front ++ last ∷ [])) → (name : List ℕ) × (path ≡ folder ++ name ∷ [])
    by (inl top) = absurd (let none : above [] ≡ Ok folder = ap above (sym top) ∙ e in cc)
    by (inr (front, last, is)) =
        let same : front ≡ folder = let ok : Ok front ≡ Ok folder = sym (above_last front last) ∙ ap above (sym is) ∙ e in cc in
        (last, is ∙ ap (λ (f : Names). f ++ last ∷ []) same)

pub top_alone : (path : Names) (fault : PathFault) → above path ≡ Err fault → path ≡ []
top_alone path fault e = by (last_item path)
  where
    by : (path ≡ []) ⊎ ((front : Names) × (last : List ℕ) × (path ≡ front ++ last ∷ [])) → path ≡ []
    by (inl top) = top
    by (inr (front, last, is)) = absurd (let wrong : Ok front ≡ Err fault = sym (above_last front last) ∙ ap above (sym is) ∙ e in cc)

-- ---- sets of paths, and the folders above them

-- a path of a list that passes a test, where the list has one
pub found_in : (test : Names → Bool) (paths : List Names) → list_any test paths ≡ true → (path : Names) × (among path paths ≡ true) × (test path ≡ true)
found_in test [] e = absurd (false≢true e)
found_in test (first ∷ more) e = by (λ rest. found_in test more rest) (test first) refl e
  where
    by : (list_any test more ≡ true → (path : Names) × (among path more ≡ true) × (test path ≡ true)) → (b : Bool) → test first ≡ b → (b || list_any test more) ≡ true
        → (path : Names) × (among path (first ∷ more) ≡ true) × (test path ≡ true)
    by behind true is e = (first, or_left (same_path first first) (among first more) ((same_path-decides first first).1 refl), is)
    by behind false is e = let rest = behind e in (rest.0, or_right (same_path rest.0 first) (among rest.0 more) rest.1, rest.2)

-- a list has a path that passes a test where this one does
pub passes_in : (test : Names → Bool) (paths : List Names) (path : Names) → among path paths ≡ true → test path ≡ true → list_any test paths ≡ true
passes_in test [] path there is = absurd (false≢true there)
passes_in test (first ∷ more) path there is = by (λ e. passes_in test more path e is) (same_path path first) refl there
  where
    by : (among path more ≡ true → list_any test more ≡ true) → (b : Bool) → same_path path first ≡ b → (b || among path more) ≡ true → (test first || list_any test more) ≡ true
    by behind true same there = or_left (test first) (list_any test more) (ap test (sym ((same_path-decides path first).0 same)) ∙ is)
    by behind false apart there = or_right (test first) (list_any test more) (behind there)

-- lists of the same paths have alike what passes a test
pub pass_alike : (test : Names → Bool) (one other : List Names) → ((path : Names) → among path one ≡ among path other) → list_any test one ≡ list_any test other
pass_alike test one other same =
    both_ways (list_any test one) (list_any test other)
    (λ e. let found = found_in test one e in passes_in test other found.0 (sym (same found.0) ∙ found.1) found.2)
    (λ e. let found = found_in test other e in passes_in test one found.0 (same found.0 ∙ found.1) found.2)

absorbs : (a b : Bool) → (a ≡ true → b ≡ true) → b ≡ (a || b)
absorbs true b to = to refl
absorbs false b to = refl

-- two truths in another order, and three otherwise grouped
pub or_last : (a b : Bool) → (a || (b || false)) ≡ (b || a)
or_last true true = refl
or_last true false = refl
or_last false true = refl
or_last false false = refl

-- a set with one path more passes a test where that path does, or where it did
pub one_more_passes : (test : Names → Bool) (keys : List Names) (added : Names) → list_any test (insert_key same_path keys added) ≡ (test added || list_any test keys)
one_more_passes test keys added = by (among added keys) refl
  where
    by : (b : Bool) → among added keys ≡ b → list_any test (cond b keys (keys ++ added ∷ [])) ≡ (test added || list_any test keys)
    by true there = absorbs (test added) (list_any test keys) (passes_in test keys added there)
    by false new = list_any-append test keys (added ∷ []) ∙ or_last (list_any test keys) (test added)

or_turned : (a b c : Bool) → (a || (b || c)) ≡ ((a || b) || c)
or_turned true b c = refl
or_turned false b c = refl

-- one more path, with the folders above it
pub above_more : (folders more paths : List Names) (path : Names) → AreAbove folders paths → ((dir : Names) → among dir more ≡ (is_below dir path || among dir folders))
    → AreAbove more (insert_key same_path paths path)
above_more folders more paths path are added dir =
    added dir ∙ ap (λ b. is_below dir path || b) (are dir) ∙ sym (one_more_passes (is_below dir) paths path)

-- the folders above paths are closed
pub closed_above : (folders paths : List Names) → AreAbove folders paths → IsClosed folders
closed_above folders paths are dir upper there over =
    let found = found_in (is_below dir) paths (sym (are dir) ∙ there) in
    are upper ∙ passes_in (is_below upper) paths found.0 found.1 (below_through upper dir found.0 over found.2)

-- the folders above a path where its own folder is there
pub there_already : (folders : List Names) (folder : Names) (name : List ℕ) → IsClosed folders → among folder folders ≡ true
    → (dir : Names) → among dir folders ≡ (is_below dir (folder ++ name ∷ []) || among dir folders)
there_already folders folder name closed there dir = absorbs (is_below dir (folder ++ name ∷ [])) (among dir folders) (λ e. by (same_path dir folder) refl (sym (below_named dir folder name) ∙ e))
  where
    by : (b : Bool) → same_path dir folder ≡ b → (b || is_below dir folder) ≡ true → among dir folders ≡ true
    by true same e = ap (λ d. among d folders) ((same_path-decides dir folder).0 same) ∙ there
    by false apart e = closed folder dir there e

-- and where it is added behind those above it
pub added_behind : (folders mid : List Names) (folder : Names) (name : List ℕ) → ((dir : Names) → among dir mid ≡ (is_below dir folder || among dir folders))
    → (dir : Names) → among dir (insert_key same_path mid folder) ≡ (is_below dir (folder ++ name ∷ []) || among dir folders)
added_behind folders mid folder name added dir =
    one_more_passes (same_path dir) mid folder ∙ ap (λ b. same_path dir folder || b) (added dir) ∙ or_turned (same_path dir folder) (is_below dir folder) (among dir folders)
    ∙ ap (λ b. b || among dir folders) (sym (below_named dir folder name))

-- the outputs of rules are those that a rule makes
pub made_among : (drafts : List Draft) (path : Names) → among path (made_by drafts) ≡ is_made drafts path
made_among [] path = refl
made_among (draft ∷ more) path = list_any-append (same_path path) draft.outputs (made_by more) ∙ ap (λ b. among path draft.outputs || b) (made_among more path)
