-- Rules whose records ask an output of a new one, one rule after another.
use Rattle.std.specs.Prelude.{◌≡◌, ◌⊎◌, ◌↔◌, ◌+◌, ◌<◌, ◌≤◌, ℕ, List, [], ◌++◌, Option, Some, Contains, length, slice_get}
use Rattle.std.proofs.Common.{refl, sym, subst, ◌∙◌, inl, inr, get_or, arith}
use Rattle.std.proofs.lemmas.Bool.{cases_eq}
use Rattle.std.proofs.lemmas.List.Elements.{Contains-append_left, Contains-append_right, Contains-append_cases}
use Rattle.std.proofs.lemmas.Option.{same_Some, slice_get_read, slice_get_within}
use Rattle.tup_rule.specs.declared.rule.Rule.{Rule}
use Rattle.tup_graph.specs.Graph.{GraphState}
use Rattle.tup_readers.proofs.Entries.{none_in}
use Rattle.tup_closure.specs.Grows.{Grows}
use Rattle.tup_rule_diff.specs.Running.{ReadsIfNew, ReadsOneNew}

-- a list behind a list
pub grows_behind : {X : Type 0} (before more after : List X) → after ≡ before ++ more → Grows (Contains more) (Contains before) (Contains after)
grows_behind before more after is = record {
  only = λ x h. Contains-append_cases before more x (subst (λ (l : List _). Contains l x) is h);
  all = λ x h. subst (λ (l : List _). Contains l x) (sym is) (Contains-append_right before more x h);
  kept = λ x h. subst (λ (l : List _). Contains l x) (sym is) (Contains-append_left before more x h);
}

module _ (led : GraphState) (befores : List (Option ℕ)) where
  -- the record of a rule asks an output of one of the first rules of a list, if that is new
  abbrev pub ReadsOneOf : List Rule → ℕ → ℕ → Type 0
  ReadsOneOf rules i number = (at : ℕ) × (rule : Rule) × (at < i) × (slice_get rules at ≡ Some rule) × ReadsIfNew led befores at rule number

  pub none_read : (rules : List Rule) (found : List ℕ) → found ≡ [] → (number : ℕ) → Contains found number ↔ ReadsOneOf rules 0 number
  none_read rules found empty number = (
    λ h. absurd (none_in number (subst (λ (l : List ℕ). Contains l number) empty h)),
    λ (at, rule, less, here, reads). absurd (omega (arith, less)),
  )

  module _ (rules : List Rule) (i : ℕ) (rule : Rule) (less : i < length rules) (is : rule ≡ get_or rules i rule) (found new : List ℕ)
      (are : (number : ℕ) → Contains found number ↔ ReadsOneOf rules i number) (grows : Grows (ReadsIfNew led befores i rule) (Contains found) (Contains new)) where
    here : slice_get rules i ≡ Some rule
    here = slice_get_read rules (length rules) i rule refl less is

    to : (number : ℕ) → Contains found number ⊎ ReadsIfNew led befores i rule number → ReadsOneOf rules (i + 1) number
    to number (inl before) = let (at, other, below, there, reads) = (are number).0 before in (at, other, omega (arith, below), there, reads)
    to number (inr reads) = (i, rule, omega arith, here, reads)

    from : (number : ℕ) → ReadsOneOf rules (i + 1) number → Contains new number
    from number (at, other, below, there, reads) = elim (cases_eq at i) [
      | inl same ↦ grows.all number (subst (λ (x : ℕ × Rule). ReadsIfNew led befores x.0 x.1 number)
          (λ k. (same k, same_Some other rule (sym (subst (λ (n : ℕ). slice_get rules n ≡ Some other) same there) ∙ here) k)) reads)
      | inr apart ↦ grows.kept number ((are number).1 (at, other, omega (arith, below), there, reads))
    ]

    pub one_rule_more : (number : ℕ) → Contains new number ↔ ReadsOneOf rules (i + 1) number
    one_rule_more number = (λ h. to number (grows.only number h), from number)

  pub all_read : (rules : List Rule) (i : ℕ) (found : List ℕ) → length rules ≤ i → rules ≡ led.rules → ((number : ℕ) → Contains found number ↔ ReadsOneOf rules i number) → (number : ℕ) → Contains found number ↔ ReadsOneNew led befores number
  all_read rules i found whole same are number = (
    λ h. let (at, rule, below, there, reads) = (are number).0 h in (at, rule, subst (λ (l : List Rule). slice_get l at ≡ Some rule) same there, reads),
    λ (at, rule, there, reads).
        let here : slice_get rules at ≡ Some rule = subst (λ (l : List Rule). slice_get l at ≡ Some rule) (sym same) there in
        let within = slice_get_within rules at rule here in
        (are number).1 (at, rule, omega (arith, within, whole), here, reads),
  )
