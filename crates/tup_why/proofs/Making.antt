-- The makers of paths, one rule more and one path more.
use Rattle.std.specs.Prelude.{◌≡◌, ◌⊎◌, ℕ, ◌+◌, ◌<◌, true, List, [], ◌∷◌, ◌++◌, None, Some, Contains, length, slice_get}
use Rattle.std.proofs.Common.{refl, sym, subst, ◌∙◌, inl, inr, take, get_or, arith}
use Rattle.std.proofs.lemmas.List.Elements.{Contains-push, Contains-push_cases, Contains-append_left}
use Rattle.std.proofs.lemmas.Option.{none-some, same_Some}
use Rattle.tup_path.specs.Name.{Names}
use Rattle.tup_rule.specs.Rule.{writes}
use Rattle.tup_rule.specs.declared.rule.Rule.{Rule}
use Rattle.tup_rule.proofs.Laws.{among-decides}
use Rattle.tup_closure.specs.Grows.{Grows}
use Rattle.tup_closure.specs.Lists.{IsListed, list_of}
use Rattle.tup_closure.specs.declared.lists.Lists.{Lists}
use Rattle.tup_closure.proofs.Asked.{taken}
use Rattle.tup_closure.proofs.Growing.{grows_on, grows_as, grows_nothing}
use Rattle.tup_why.specs.Makers.{AreMakersAmong, IsMakerAmong, IsOneOf, IsOutput}

none_listed : {X : Type 0} (x : X) → Contains [] x → ⊥
none_listed x h = let less = h.1 in omega arith

-- ---- the outputs of one rule

pub one_of_none : (number : ℕ) (old : Lists ℕ) → Grows (IsOneOf [] number) (IsListed old) (IsListed old)
one_of_none number old = grows_nothing (λ x one. none_listed x.0 one.1)

pub one_of_more : (outputs : List Names) (i : ℕ) (path d : Names) (number : ℕ) (old mid new : Lists ℕ) → i < length outputs → path ≡ get_or outputs i d
    → Grows (IsOneOf (take i outputs) number) (IsListed old) (IsListed mid) → Grows (λ (x : Names × ℕ). x ≡ (path, number)) (IsListed mid) (IsListed new)
    → Grows (IsOneOf (take (i + 1) outputs) number) (IsListed old) (IsListed new)
one_of_more outputs i path d number old mid new less is first one = grows_as to from (grows_on first one)
  where
    grown : take (i + 1) outputs ≡ take i outputs ++ path ∷ []
    grown = taken outputs i path d less is

    to : (x : Names × ℕ) → IsOneOf (take i outputs) number x ⊎ (x ≡ (path, number)) → IsOneOf (take (i + 1) outputs) number x
    to x (inl (same, h)) = (same, subst (λ (l : List Names). Contains l x.0) (sym grown) (Contains-append_left (take i outputs) (path ∷ []) x.0 h))
    to x (inr e) = subst (IsOneOf (take (i + 1) outputs) number) (sym e) (refl, subst (λ (l : List Names). Contains l path) (sym grown) (Contains-push (take i outputs) path))

    from : (x : Names × ℕ) → IsOneOf (take (i + 1) outputs) number x → IsOneOf (take i outputs) number x ⊎ (x ≡ (path, number))
    from x (same, h) = elim (Contains-push_cases (take i outputs) path x.0 (subst (λ (l : List Names). Contains l x.0) grown h)) [
      | inl before ↦ inl (same, before)
      | inr last ↦ inr (λ j. (sym last j, same j))
    ]

-- ---- one rule

pub outputs_added : (rules : List Rule) (number : ℕ) (rule : Rule) (old new : Lists ℕ) → slice_get rules number ≡ Some rule
    → Grows (IsOneOf rule.outputs number) (IsListed old) (IsListed new) → Grows (IsOutput rules number) (IsListed old) (IsListed new)
outputs_added rules number rule old new here = grows_as to from
  where
    to : (x : Names × ℕ) → IsOneOf rule.outputs number x → IsOutput rules number x
    to x (same, h) = (same, rule, here, (among-decides x.0 rule.outputs).1 h)

    the_rule : (other : Rule) → slice_get rules number ≡ Some other → other ≡ rule
    the_rule other there = same_Some other rule (sym there ∙ here)

    from : (x : Names × ℕ) → IsOutput rules number x → IsOneOf rule.outputs number x
    from x (same, other, there, wrote) = (same, (among-decides x.0 rule.outputs).0 (subst (λ (r : Rule). writes r x.0 ≡ true) (the_rule other there) wrote))

pub nothing_added : (rules : List Rule) (number : ℕ) (old : Lists ℕ) → slice_get rules number ≡ None → Grows (IsOutput rules number) (IsListed old) (IsListed old)
nothing_added rules number old none = grows_nothing no_output
  where
    no_output : (x : Names × ℕ) → IsOutput rules number x → ⊥
    no_output x (same, other, there, wrote) = none-some other (sym none ∙ there)

-- ---- all rules

pub no_makers : (rules : List Rule) (makers : Lists ℕ) → ((path : Names) → list_of makers path ≡ []) → AreMakersAmong rules [] makers
no_makers rules makers empty x = (
  λ listed. absurd (none_listed x.1 (subst (λ (l : List ℕ). Contains l x.1) (empty x.0) listed)),
  λ one. absurd (none_listed x.1 one.0),
)

pub makers_more : (rules : List Rule) (numbers : List ℕ) (i number d : ℕ) (old new : Lists ℕ) → i < length numbers → number ≡ get_or numbers i d
    → AreMakersAmong rules (take i numbers) old → Grows (IsOutput rules number) (IsListed old) (IsListed new) → AreMakersAmong rules (take (i + 1) numbers) new
makers_more rules numbers i number d old new less is are grows x = (
  λ listed. to (grows.only x listed),
  λ one. from (Contains-push_cases (take i numbers) number x.1 (subst (λ (l : List ℕ). Contains l x.1) grown one.0)) one,
)
  where
    grown : take (i + 1) numbers ≡ take i numbers ++ number ∷ []
    grown = taken numbers i number d less is

    to : IsListed old x ⊎ IsOutput rules number x → IsMakerAmong rules (take (i + 1) numbers) x
    to (inl was) =
        let (h, rule, here, wrote) = (are x).0 was in
        (subst (λ (l : List ℕ). Contains l x.1) (sym grown) (Contains-append_left (take i numbers) (number ∷ []) x.1 h), rule, here, wrote)
    to (inr (same, rule, here, wrote)) = (
      subst (λ (l : List ℕ). Contains l x.1) (sym grown) (subst (Contains (take i numbers ++ number ∷ [])) (sym same) (Contains-push (take i numbers) number)),
      rule,
      subst (λ (n : ℕ). slice_get rules n ≡ Some rule) (sym same) here,
      wrote,
    )

    from : Contains (take i numbers) x.1 ⊎ (number ≡ x.1) → IsMakerAmong rules (take (i + 1) numbers) x → IsListed new x
    from (inl before) (h, rule, here, wrote) = grows.kept x ((are x).1 (before, rule, here, wrote))
    from (inr last) (h, rule, here, wrote) = grows.all x (sym last, rule, subst (λ (n : ℕ). slice_get rules n ≡ Some rule) (sym last) here, wrote)
