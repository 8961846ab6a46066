-- Tests of membership, and paths that lead on from each other.
use Rattle.std.proofs.Common.{◌≡◌, ◌≢◌, ◌⊎◌, inl, inr, ⊎_elim, Bool, true, false, cond, List, [], ◌∷◌, ◌++◌, length, take, drop, filter, refl, sym, ap, subst, ◌∙◌, arith, take-append-drop}
use Rattle.std.proofs.lemmas.Bool.{cases_Bool, or_cases, or_left, or_right, both_ways}
use Rattle.std.proofs.lemmas.List.{take_at, take_all, append-nil}
use Rattle.tup_path.specs.Name.{Names, Content}
use Rattle.tup_path.specs.Order.{same_path}
use Rattle.tup_path.specs.Tree.{IsBelow}
use Rattle.tup_path.proofs.Same.{same_path-decides, same_bytes-decides}
use Rattle.tup_site.specs.State.{is_among, is_in_line}
use Rattle.tup_site.specs.Known.{knows}

pub same_itself : (path : Names) → same_path path path ≡ true
same_itself path = (same_path-decides path path).1 refl

pub knows_newest : (content : Content) (contents : List Content) → knows (content ∷ contents) content ≡ true
knows_newest content contents = or_left _ _ ((same_bytes-decides content content).1 refl)

pub knows_more : (newest : Content) (contents : List Content) (content : Content) → knows contents content ≡ true → knows (newest ∷ contents) content ≡ true
knows_more newest contents content k = or_right _ _ k

pub known_or_newest : (newest : Content) (contents : List Content) (content : Content) → knows (newest ∷ contents) content ≡ true → (content ≡ newest) ⊎ (knows contents content ≡ true)
known_or_newest newest contents content k = ⊎_elim (λ e. inl ((same_bytes-decides content newest).0 e)) (λ old. inr old) (or_cases _ _ k)

pub among_first : (path : Names) (paths : List Names) → is_among (path ∷ paths) path ≡ true
among_first path paths = or_left _ _ (same_itself path)

pub among_more : (first : Names) (paths : List Names) (path : Names) → is_among paths path ≡ true → is_among (first ∷ paths) path ≡ true
among_more first paths path k = or_right _ _ k

pub among_cases : (first : Names) (paths : List Names) (path : Names) → is_among (first ∷ paths) path ≡ true → (path ≡ first) ⊎ (is_among paths path ≡ true)
among_cases first paths path k = ⊎_elim (λ e. inl ((same_path-decides path first).0 e)) (λ old. inr old) (or_cases _ _ k)

-- a path that isn't among some is none of more that it differs from
pub not_among : (first : Names) (paths : List Names) (path : Names) → path ≢ first → is_among paths path ≡ false → is_among (first ∷ paths) path ≡ false
not_among first paths path apart none = elim (cases_Bool (is_among (first ∷ paths) path)) [
  | inl so ↦ absurd (⊎_elim apart (λ old. both_ways _ none old) (among_cases first paths path so))
  | inr nay ↦ nay
]

pub among_apart : (paths : List Names) (path other : Names) → is_among paths path ≡ true → is_among paths other ≡ false → other ≢ path
among_apart paths path other so nay e = both_ways _ nay (subst (λ (p : Names). is_among paths p ≡ true) (sym e) so)

pub kept_among : (test : Names → Bool) (paths : List Names) (path : Names) → is_among (filter test paths) path ≡ true → (is_among paths path ≡ true) × (test path ≡ true)
kept_among test [] path h = absurd (both_ways _ refl h)
kept_among test (first ∷ paths) path h = elim (cases_Bool (test first)) [
  | inl so ↦
      let h' : is_among (first ∷ filter test paths) path ≡ true = subst (λ b. is_among (cond b (first ∷ filter test paths) (filter test paths)) path ≡ true) so h in
      ⊎_elim (λ e. (or_left _ _ ((same_path-decides path first).1 e), subst (λ (p : Names). test p ≡ true) (sym e) so)) (λ old. let rest = kept_among test paths path old in (or_right _ _ rest.0, rest.1)) (among_cases first (filter test paths) path h')
  | inr nay ↦
      let h' : is_among (filter test paths) path ≡ true = subst (λ b. is_among (cond b (first ∷ filter test paths) (filter test paths)) path ≡ true) nay h in
      let rest = kept_among test paths path h' in (or_right _ _ rest.0, rest.1)
]

pub among_kept : (test : Names → Bool) (paths : List Names) (path : Names) → is_among paths path ≡ true → test path ≡ true → is_among (filter test paths) path ≡ true
among_kept test [] path h passes = h
among_kept test (first ∷ paths) path h passes = elim (cases_Bool (test first)) [
  | inl so ↦ subst (λ b. is_among (cond b (first ∷ filter test paths) (filter test paths)) path ≡ true) (sym so)
      (⊎_elim (λ e. or_left _ _ ((same_path-decides path first).1 e)) (λ old. or_right _ _ (among_kept test paths path old passes)) (among_cases first paths path h))
  | inr nay ↦ subst (λ b. is_among (cond b (first ∷ filter test paths) (filter test paths)) path ≡ true) (sym nay)
      (⊎_elim (λ e. absurd (both_ways _ nay (subst (λ (p : Names). test p ≡ true) e passes))) (λ old. among_kept test paths path old passes) (among_cases first paths path h))
]

-- ---- paths in line

below_front : (folder path : Names) → IsBelow folder path → take (length folder) path ≡ folder
below_front folder path below = ap (λ (p : Names). take (length folder) p) below.2 ∙ take_at folder below.0 (length folder) refl

pub in_line_below : (a b : Names) → IsBelow a b ⊎ IsBelow b a → is_in_line a b ≡ true
in_line_below a b (inl below) = or_left _ _ ((same_path-decides _ _).1 (below_front a b below))
in_line_below a b (inr below) = or_right _ _ ((same_path-decides _ _).1 (below_front b a below))

pub in_line_itself : (a b : Names) → a ≡ b → is_in_line a b ≡ true
in_line_itself a b e = or_left _ _ ((same_path-decides _ _).1 (ap (λ (p : Names). take (length a) p) (sym e) ∙ take_all (length a) a (omega arith)))

front_leads : (a b : Names) → take (length a) b ≡ a → (b ≡ a) ⊎ IsBelow a b
front_leads a b e =
    let whole : b ≡ a ++ drop (length a) b = sym (take-append-drop (length a) b) ∙ ap (λ (l : Names). l ++ drop (length a) b) e in
    elim (drop (length a) b) as (λ (rest : Names). b ≡ a ++ rest → (b ≡ a) ⊎ IsBelow a b) [
      | [] ↦ λ w. inl (w ∙ append-nil a)
      | name ∷ rest ↦ λ w. inr (name ∷ rest, (λ (nay : name ∷ rest ≡ []). cc), w)
    ] whole

pub from_in_line : (a b : Names) → is_in_line a b ≡ true → (a ≡ b) ⊎ (IsBelow a b ⊎ IsBelow b a)
from_in_line a b h = elim (or_cases _ _ h) [
  | inl front ↦ ⊎_elim (λ e. inl (sym e)) (λ below. inr (inl below)) (front_leads a b ((same_path-decides _ _).0 front))
  | inr front ↦ ⊎_elim (λ e. inl e) (λ below. inr (inr below)) (front_leads b a ((same_path-decides _ _).0 front))
]
