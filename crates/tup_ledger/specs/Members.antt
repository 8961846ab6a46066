-- The members of ascending lists: `ascending` keeps those of a list, and no other ascending list has the same.
use Rattle.std.proofs.Common.{◌≡◌, ◌<◌, List, [], ◌∷◌, All, ◌⊎◌, inl, inr, refl, sym, ap, subst, ◌∙◌, arith}
use Rattle.std.proofs.lemmas.Cmp.{tied_itself}
use Rattle.std.proofs.lemmas.List.Elements.{All-nil, All-cons, All-head, All-tail, All-weaker, All-contains, Contains-append_right, Contains-append_cases}
use Rattle.std.specs.List.{Contains}
use Rattle.std.specs.Ordering.{match_ordering, ordering_reverse}
use Rattle.std.specs.declared.cmp.Ordering.TheVariants.{Less, Equal, Greater}
use Rattle.tup_path.specs.Name.{Names}
use Rattle.tup_path.specs.Order.{by_names, by_names-total, by_names-antisymmetric}
use Rattle.tup_ledger.specs.Ascending.{IsAscending, put, ascending}

-- a path comes before another
abbrev pub Before : Names → Names → Type 0
Before path later = by_names path later ≡ Less

-- ---- the members of a list with one more in front
pub first_member : (path : Names) (paths : List Names) → Contains (path ∷ paths) path
first_member path paths = (0, omega arith, refl)

pub later_member : (path : Names) (paths : List Names) (other : Names) → Contains paths other → Contains (path ∷ paths) other
later_member path paths other has = Contains-append_right (path ∷ []) paths other has

pub no_member : (other : Names) → Contains [] other → ⊥
no_member other has = let l : has.0 < 0 = has.1 in omega arith

pub member_cases : (path : Names) (paths : List Names) (other : Names) → Contains (path ∷ paths) other → (path ≡ other) ⊎ Contains paths other
member_cases path paths other has =
    elim (Contains-append_cases (path ∷ []) paths other has) [
      | inl one ↦ inl (All-contains (λ y. path ≡ y) (path ∷ []) other (All-cons (λ y. path ≡ y) path [] refl (All-nil (λ y. path ≡ y))) one)
      | inr more ↦ inr more
    ]

-- ---- the order
pub not_before_itself : (path : Names) → Before path path → ⊥
not_before_itself path before = let tied = tied_itself by_names-total path in cc

pub not_both_before : (x y : Names) → Before x y → Before y x → ⊥
not_both_before x y there back = not_before_itself x (by_names-total.trans x y x there back)

pub after_greater : (x y : Names) → by_names x y ≡ Greater → Before y x
after_greater x y e = by_names-total.antisymm y x ∙ ap ordering_reverse e

-- ---- a path that is put at its place
all_put : (P : Names → Type 0) (path : Names) (paths : List Names) → P path → All P paths → All P (put path paths)
all_put P path [] one all = All-cons P path [] one (All-nil P)
all_put P path (first ∷ more) one all =
    elim (by_names path first) as (λ o. All P (match_ordering o (path ∷ first ∷ more) (first ∷ more) (first ∷ put path more))) [
      | Less ↦ All-cons P path (first ∷ more) one all
      | Equal ↦ all
      | Greater ↦ All-cons P first (put path more) (All-head P first more all) (all_put P path more one (All-tail P first more all))
    ]

pub put-IsAscending : (path : Names) (paths : List Names) → IsAscending paths → IsAscending (put path paths)
put-IsAscending path [] up = (All-nil (Before path), tt)
put-IsAscending path (first ∷ more) up =
    (elim (by_names path first) as (λ o. by_names path first ≡ o → IsAscending (match_ordering o (path ∷ first ∷ more) (first ∷ more) (first ∷ put path more))) [
      | Less ↦ λ e. (All-cons (Before path) first more e (All-weaker (Before first) (Before path) (λ later l. by_names-total.trans path first later e l) more up.0), up)
      | Equal ↦ λ e. up
      | Greater ↦ λ e. (all_put (Before first) path more (after_greater path first e) up.0, put-IsAscending path more up.1)
    ]) refl

pub put_has : (path : Names) (paths : List Names) (other : Names) → (path ≡ other) ⊎ Contains paths other → Contains (put path paths) other
put_has path [] other (inl same) = subst (Contains (path ∷ [])) same (first_member path [])
put_has path [] other (inr has) = absurd (no_member other has)
put_has path (first ∷ more) other which =
    (elim (by_names path first) as (λ o. by_names path first ≡ o → Contains (match_ordering o (path ∷ first ∷ more) (first ∷ more) (first ∷ put path more)) other) [
      | Less ↦ λ e. (elim which as (λ w. Contains (path ∷ first ∷ more) other) [
        | inl same ↦ subst (Contains (path ∷ first ∷ more)) same (first_member path (first ∷ more))
        | inr has ↦ later_member path (first ∷ more) other has
      ])
      | Equal ↦ λ e. (elim which as (λ w. Contains (first ∷ more) other) [
        | inl same ↦ subst (Contains (first ∷ more)) (sym (by_names-antisymmetric path first e) ∙ same) (first_member first more)
        | inr has ↦ has
      ])
      | Greater ↦ λ e. (elim which as (λ w. Contains (first ∷ put path more) other) [
        | inl same ↦ later_member first (put path more) other (put_has path more other (inl same))
        | inr has ↦ (elim (member_cases first more other has) as (λ w. Contains (first ∷ put path more) other) [
          | inl same ↦ subst (Contains (first ∷ put path more)) same (first_member first (put path more))
          | inr later ↦ later_member first (put path more) other (put_has path more other (inr later))
        ])
      ])
    ]) refl

pub put_has_only : (path : Names) (paths : List Names) (other : Names) → Contains (put path paths) other → (path ≡ other) ⊎ Contains paths other
put_has_only path [] other = λ has. member_cases path [] other has
put_has_only path (first ∷ more) other =
    elim (by_names path first) as (λ o. Contains (match_ordering o (path ∷ first ∷ more) (first ∷ more) (first ∷ put path more)) other → (path ≡ other) ⊎ Contains (first ∷ more) other) [
      | Less ↦ λ has. member_cases path (first ∷ more) other has
      | Equal ↦ λ has. inr has
      | Greater ↦ λ has. elim (member_cases first (put path more) other has) [
        | inl same ↦ inr (subst (Contains (first ∷ more)) same (first_member first more))
        | inr later ↦ elim (put_has_only path more other later) [ inl same ↦ inl same | inr further ↦ inr (later_member first more other further) ]
      ]
    ]

-- ---- the laws of `ascending`
pub ascending-IsAscending : (paths : List Names) → IsAscending (ascending paths)
ascending-IsAscending [] = tt
ascending-IsAscending (path ∷ paths) = put-IsAscending path (ascending paths) (ascending-IsAscending paths)

pub ascending_has : (paths : List Names) (other : Names) → Contains paths other → Contains (ascending paths) other
ascending_has [] other has = has
ascending_has (path ∷ paths) other has =
    elim (member_cases path paths other has) [ inl same ↦ put_has path (ascending paths) other (inl same) | inr later ↦ put_has path (ascending paths) other (inr (ascending_has paths other later)) ]

pub ascending_has_only : (paths : List Names) (other : Names) → Contains (ascending paths) other → Contains paths other
ascending_has_only [] other has = has
ascending_has_only (path ∷ paths) other has =
    elim (put_has_only path (ascending paths) other has) [ inl same ↦ subst (Contains (path ∷ paths)) same (first_member path paths) | inr later ↦ later_member path paths other (ascending_has_only paths other later) ]

-- ---- ascending lists with the same members are equal
same_first : (x : Names) (xs : List Names) (y : Names) (ys : List Names) → IsAscending (x ∷ xs) → IsAscending (y ∷ ys) → Contains (y ∷ ys) x → Contains (x ∷ xs) y → x ≡ y
same_first x xs y ys up over there back =
    elim (member_cases y ys x there) [
      | inl same ↦ sym same
      | inr later ↦ elim (member_cases x xs y back) [
        | inl same ↦ same
        | inr further ↦ absurd (not_both_before x y (All-contains (Before x) xs y up.0 further) (All-contains (Before y) ys x over.0 later))
      ]
    ]

-- a later member of one is a later member of the other
same_later : (x : Names) (xs ys : List Names) → IsAscending (x ∷ xs) → ((other : Names) → Contains (x ∷ xs) other → Contains (x ∷ ys) other) → (other : Names) → Contains xs other → Contains ys other
same_later x xs ys up within other has =
    elim (member_cases x ys other (within other (later_member x xs other has))) [
      | inl same ↦ absurd (not_before_itself x (subst (Before x) (sym same) (All-contains (Before x) xs other up.0 has)))
      | inr later ↦ later
    ]

pub same_members : (xs ys : List Names) → IsAscending xs → IsAscending ys → ((other : Names) → Contains xs other → Contains ys other) → ((other : Names) → Contains ys other → Contains xs other) → xs ≡ ys
same_members [] [] up over there back = refl
same_members [] (y ∷ ys) up over there back = absurd (no_member y (back y (first_member y ys)))
same_members (x ∷ xs) [] up over there back = absurd (no_member x (there x (first_member x xs)))
same_members (x ∷ xs) (y ∷ ys) up over there back =
    let first : x ≡ y = same_first x xs y ys up over (there x (first_member x xs)) (back y (first_member y ys)) in
    let there_x : (other : Names) → Contains (x ∷ xs) other → Contains (x ∷ ys) other = subst (λ f. (other : Names) → Contains (x ∷ xs) other → Contains (f ∷ ys) other) (sym first) there in
    let back_x : (other : Names) → Contains (x ∷ ys) other → Contains (x ∷ xs) other = subst (λ f. (other : Names) → Contains (f ∷ ys) other → Contains (x ∷ xs) other) (sym first) back in
    let over_x : IsAscending (x ∷ ys) = subst (λ f. IsAscending (f ∷ ys)) (sym first) over in
    let rest : xs ≡ ys = same_members xs ys up.1 over.1 (same_later x xs ys up there_x) (same_later x ys xs over_x back_x) in
    λ i. first i ∷ rest i
