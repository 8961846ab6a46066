-- Lists of folders, each waiting for the one behind it.
use Rattle.std.proofs.Common.{◌≡◌, inl, inr, Bool, true, false, cond, ◌||◌, List, [], ◌∷◌, ◌++◌, refl, sym, ap, ◌∙◌}
use Rattle.std.specs.List.{IsDistinct, AllByRecursion}
use Rattle.std.specs.Cmp.{IsEquivalence}
use Rattle.std.specs.Cmp.Lexicographic.{lists_equiv, nat_list_eq_equiv}
use Rattle.std.proofs.lemmas.Bool.{false≢true, or_cases, or_left, or_right}
use Rattle.std.proofs.lemmas.List.Folds.{list_any-append}
use Rattle.std.proofs.lemmas.Map.Keys.{IsDistinct-push, IsDistinct-tail}
use Rattle.tup_path.specs.Name.{Names}
use Rattle.tup_path.specs.Order.{same_path}
use Rattle.tup_path.specs.Tree.{Tree}
use Rattle.tup_path.proofs.Same.{same_path-decides}
use Rattle.tup_rule.specs.Rule.{among}
use Rattle.tup_vars.specs.Table.{Entries}
use Rattle.tup_readings.specs.Answers.{Readings}
use Rattle.tup_readings.specs.Readings.{WaitsFor, IsLine, IsTurn}
use Rattle.tup_readings.specs.State.{from_first}
use Rattle.tup_readings.proofs.Below.{or_false, last_item, lasts}

-- ---- which paths are among some

pub among_push : (path last : Names) (front : List Names) → among path (front ++ last ∷ []) ≡ (among path front || same_path path last)
among_push path last front = list_any-append (same_path path) front (last ∷ []) ∙ ap (λ b. among path front || b) (or_false (same_path path last))

same_path-refl : (path : Names) → same_path path path ≡ true
same_path-refl path = (same_path-decides path path).1 refl

pub among_last : (last : Names) (front : List Names) → among last (front ++ last ∷ []) ≡ true
among_last last front = among_push last last front ∙ or_right (among last front) (same_path last last) (same_path-refl last)

there : (front : List Names) (path : Names) (back : List Names) → among path (front ++ (path ∷ back)) ≡ true
there front path back =
    list_any-append (same_path path) front (path ∷ back)
    ∙ or_right (among path front) (among path (path ∷ back)) (or_left (same_path path path) (among path back) (same_path-refl path))

-- ---- paths none of which stands twice

same_path-equivalence : IsEquivalence same_path
same_path-equivalence = lists_equiv nat_list_eq_equiv

pub distinct_push : (front : List Names) (last : Names) → IsDistinct same_path front → among last front ≡ false → IsDistinct same_path (front ++ last ∷ [])
distinct_push front last once apart = IsDistinct-push same_path-equivalence front last once apart

each_front : (first last : Names) (front : List Names) → AllByRecursion (λ y. same_path first y ≡ false) (front ++ last ∷ []) → AllByRecursion (λ y. same_path first y ≡ false) front
each_front first last [] all = tt
each_front first last (next ∷ front) all = (all.0, each_front first last front all.1)

each_last : (first last : Names) (front : List Names) → AllByRecursion (λ y. same_path first y ≡ false) (front ++ last ∷ []) → same_path first last ≡ false
each_last first last [] all = all.0
each_last first last (next ∷ front) all = each_last first last front all.1

pub distinct_front : (front : List Names) (last : Names) → IsDistinct same_path (front ++ last ∷ []) → IsDistinct same_path front
unfolding IsDistinct
distinct_front [] last once = tt
distinct_front (first ∷ front) last once = (each_front first last front once.0, distinct_front front last once.1)

pub turned : (one other : Names) → same_path one other ≡ false → same_path other one ≡ false
turned one other apart = same_path-equivalence.symm other one ∙ apart

pub last_not_before : (front : List Names) (last : Names) → IsDistinct same_path (front ++ last ∷ []) → among last front ≡ false
unfolding IsDistinct
last_not_before [] last once = refl
last_not_before (first ∷ front) last once =
    ap (λ b. b || among last front) (turned first last (each_last first last front once.0)) ∙ last_not_before front last once.1

none_among : (path : Names) (paths : List Names) → AllByRecursion (λ y. same_path path y ≡ false) paths → among path paths ≡ false
none_among path [] all = refl
none_among path (first ∷ paths) all = ap (λ b. b || among path paths) all.0 ∙ none_among path paths all.1

each_back : (path : Names) (front back : List Names) → AllByRecursion (λ y. same_path path y ≡ false) (front ++ back) → AllByRecursion (λ y. same_path path y ≡ false) back
each_back path [] back all = all
each_back path (first ∷ front) back all = each_back path front back all.1

-- no path of a front stands behind it
pub not_behind : (front back : List Names) (path : Names) → IsDistinct same_path (front ++ back) → among path front ≡ true → among path back ≡ true → ⊥
unfolding IsDistinct
not_behind [] back path once here there = false≢true here
not_behind (first ∷ front) back path once here there = elim (or_cases (same_path path first) (among path front) here) [
  | inl is ↦
      let none : among path back ≡ false = ap (λ p. among p back) ((same_path-decides path first).0 is) ∙ none_among first back (each_back first front back once.0) in
      false≢true (sym none ∙ there)
  | inr more ↦ not_behind front back path once.1 more there
]

-- what stands from one path on is one thing
pub one_back : (front other : List Names) (first : Names) (more rest : List Names) → IsDistinct same_path (front ++ (first ∷ more)) → front ++ (first ∷ more) ≡ other ++ (first ∷ rest) → more ≡ rest
one_back [] [] first more rest once e = cc
one_back [] (path ∷ other) first more rest once e =
    let behind : more ≡ other ++ (first ∷ rest) = cc in
    absurd (not_behind (first ∷ []) more first once (among_last first []) (ap (among first) behind ∙ there other first rest))
one_back (path ∷ front) [] first more rest once e =
    let is : path ≡ first = cc in
    absurd (not_behind (path ∷ []) (front ++ (first ∷ more)) path once (among_last path []) (ap (λ p. among p (front ++ (first ∷ more))) is ∙ there front first more))
one_back (path ∷ front) (other_path ∷ other) first more rest once e =
    let tails : front ++ (first ∷ more) ≡ other ++ (first ∷ rest) = cc in
    one_back front other first more rest (IsDistinct-tail same_path path (front ++ (first ∷ more)) once) tails

-- ---- the paths from one on

-- what is found of the paths from one on, and what more there is among further ones
abbrev pub from_here : List Names → Names → List Names → List Names
from_here [] first paths = from_first first paths
from_here (path ∷ found) first paths = (path ∷ found) ++ paths

split_step : (first path : Names) (paths : List Names)
    → (among first paths ≡ true → (front : List Names) × (rest : List Names) × (paths ≡ front ++ (first ∷ rest)) × (from_first first paths ≡ first ∷ rest))
    → (b : Bool) → same_path path first ≡ b → among first (path ∷ paths) ≡ true
    → (front : List Names) × (rest : List Names) × (path ∷ paths ≡ front ++ (first ∷ rest)) × (cond b (path ∷ paths) (from_first first paths) ≡ first ∷ rest)
split_step first path paths more true is e =
    let same : path ≡ first = (same_path-decides path first).0 is in
    ([], paths, ap (λ p. p ∷ paths) same, ap (λ p. p ∷ paths) same)
split_step first path paths more false is e =
    let later = more (sym (ap (λ b. b || among first paths) (turned path first is)) ∙ e) in
    (path ∷ later.0, later.1, ap (λ l. path ∷ l) later.2, later.3)

pub split_first : (first : Names) (paths : List Names) → among first paths ≡ true → (front : List Names) × (rest : List Names) × (paths ≡ front ++ (first ∷ rest)) × (from_first first paths ≡ first ∷ rest)
split_first first [] e = cc
split_first first (path ∷ paths) e = split_step first path paths (split_first first paths) (same_path path first) refl e

-- paths that end with one are, from another on, two or more that end so
pub ends_so : (front rest all : List Names) (first last : Names) → same_path last first ≡ false → front ++ (first ∷ rest) ≡ all ++ last ∷ []
    → (inner : List Names) × (first ∷ rest ≡ first ∷ inner ++ last ∷ [])
ends_so front rest all first last apart e = elim (last_item rest) [
  | inl none ↦
      let is : first ≡ last = lasts front all first last (ap (λ (r : List Names). front ++ (first ∷ r)) (sym none) ∙ e) in
      let wrong : true ≡ false = sym ((same_path-decides last first).1 (sym is)) ∙ apart in
      absurd_here wrong
  | inr some ↦
      let is : some.1 ≡ last = lasts (front ++ (first ∷ some.0)) all some.1 last (whole front first some.0 some.1 ∙ ap (λ (r : List Names). front ++ (first ∷ r)) (sym some.2) ∙ e) in
      (some.0, ap (λ (r : List Names). first ∷ r) some.2 ∙ ap (λ l. first ∷ some.0 ++ l ∷ []) is)
]
  where
    absurd_here : true ≡ false → (inner : List Names) × (first ∷ rest ≡ first ∷ inner ++ last ∷ [])
    absurd_here wrong = cc

    whole : (front : List Names) (first : Names) (inner : List Names) (x : Names) → (front ++ (first ∷ inner)) ++ x ∷ [] ≡ front ++ (first ∷ (inner ++ x ∷ []))
    whole [] first inner x = refl
    whole (path ∷ front) first inner x = ap (λ l. path ∷ l) (whole front first inner x)

-- ---- folders in a line

module _ (sources : Tree) (settings : Entries) (readings : Readings) where
  pub line_push : (front : List Names) (dir next : Names) → IsLine sources settings readings (front ++ dir ∷ []) → WaitsFor sources settings readings dir next
      → IsLine sources settings readings ((front ++ dir ∷ []) ++ next ∷ [])
  line_push [] dir next line waits = (waits, tt)
  line_push (one ∷ []) dir next line waits = (line.0, (waits, tt))
  line_push (one ∷ two ∷ front) dir next line waits = (line.0, line_push (two ∷ front) dir next line.1 waits)

  pub line_front : (front : List Names) (dir : Names) → IsLine sources settings readings (front ++ dir ∷ []) → IsLine sources settings readings front
  line_front [] dir line = tt
  line_front (one ∷ []) dir line = tt
  line_front (one ∷ two ∷ front) dir line = (line.0, line_front (two ∷ front) dir line.1)

  pub turn_push : (front : List Names) (dir next : Names) → IsTurn sources settings readings (front ++ dir ∷ []) → IsTurn sources settings readings ((front ++ dir ∷ []) ++ next ∷ [])
  turn_push [] dir next turn = turn
  turn_push (first ∷ front) dir next turn = turn

  pub turn_front : (front : List Names) (dir : Names) → IsTurn sources settings readings (front ++ dir ∷ []) → IsTurn sources settings readings front
  turn_front [] dir turn = tt
  turn_front (first ∷ front) dir turn = turn
