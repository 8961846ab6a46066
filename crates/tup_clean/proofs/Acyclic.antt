-- Where no rule waits for itself, what passes from the declared producers of a rule to the rule holds of each rule:
-- behind each rule stand others, and there are only so many.
use Rattle.std.proofs.Common.{◌≡◌, ℕ, zero, suc, ◌+◌, ◌<◌, ◌≤◌, true, false, List, [], ◌∷◌, length, Some, refl, sym, ap, ◌∙◌, subst, inl, inr, arith}
use Rattle.std.specs.Prelude.{nat_eq, slice_get}
use Rattle.std.specs.List.{IsDistinct, list_any}
use Rattle.std.proofs.lemmas.Bool.{true≢false, or_cases, eqb-true, false_from_ne_true}
use Rattle.std.proofs.lemmas.Option.{slice_get_within}
use Rattle.std.proofs.lemmas.Map.Steps.{length-le_from_distinct_below}
use Rattle.tup_rule.specs.declared.rule.Rule.{Rule}
use Rattle.tup_rule.specs.Producer.{ProducerOver, DeclaredProducer}
use Rattle.tup_rule.proofs.Laws.{maker-Some, producer-trans}
use Rattle.tup_clean.specs.Buildable.{NoneWaitsForItself}
use Rattle.tup_clean.proofs.Deciding.{none_of}

-- a declared producer stands in the list
placed_over : (rules : List Rule) (rule : Rule) (at between : ℕ) → ProducerOver between rules rule at → (producer : Rule) × (slice_get rules at ≡ Some producer)
placed_over rules rule at zero (path, declared, made) = let found = maker-Some rules path at made in (found.rule, found.here)
placed_over rules rule at (suc between) (next, other, makes, here, rest) = placed_over rules other at between rest

pub placed : (rules : List Rule) (rule : Rule) (at : ℕ) → DeclaredProducer rules rule at → (producer : Rule) × (slice_get rules at ≡ Some producer)
placed rules rule at behind = placed_over rules rule at behind.0 behind.1

-- ---- chains

-- the rules of a chain, each of which waits for the last
pub record IsChain (rules : List Rule) (last : ℕ) (chain : List ℕ) : Type 0 where
  pub distinct : IsDistinct nat_eq (last ∷ chain)
  pub within : (at : ℕ) → list_any (nat_eq at) (last ∷ chain) ≡ true → at < length rules
  pub behind : (at : ℕ) → list_any (nat_eq at) chain ≡ true → (rule : Rule) × (slice_get rules at ≡ Some rule) × DeclaredProducer rules rule last

longer : (rules : List Rule) (last next : ℕ) (chain : List ℕ) (rule : Rule) → NoneWaitsForItself rules → IsChain rules last chain → slice_get rules last ≡ Some rule → DeclaredProducer rules rule next → next < length rules →
    IsChain rules next (last ∷ chain)
unfolding IsDistinct
longer rules last next chain rule acyclic is here produces within = record {
  distinct = (none_of next (last ∷ chain) (false_from_ne_true (list_any (nat_eq next) (last ∷ chain)) (λ among. apart next among refl)), is.distinct);
  within = λ at among. elim (or_cases (nat_eq at next) (list_any (nat_eq at) (last ∷ chain)) among) [
    | inl same ↦ subst (λ (n : ℕ). n < length rules) (sym (eqb-true at next same)) within
    | inr earlier ↦ is.within at earlier
  ];
  behind = λ at among. waits at among;
}
  where
    waits : (at : ℕ) → list_any (nat_eq at) (last ∷ chain) ≡ true → (one : Rule) × (slice_get rules at ≡ Some one) × DeclaredProducer rules one next
    waits at among = elim (or_cases (nat_eq at last) (list_any (nat_eq at) chain) among) [
      | inl same ↦ (rule, ap (λ (n : ℕ). slice_get rules n) (eqb-true at last same) ∙ here, produces)
      | inr earlier ↦
          let had = is.behind at earlier in
          (had.0, had.1, producer-trans rules had.0 rule last next had.2 here produces)
    ]

    apart : (at : ℕ) → list_any (nat_eq at) (last ∷ chain) ≡ true → at ≡ next → ⊥
    apart at among same =
        let had = waits at among in
        acyclic next had.0 (ap (λ (n : ℕ). slice_get rules n) (sym same) ∙ had.1) had.2

-- ---- down to the rules that wait for none

-- what passes from the declared producers of a rule to it
abbrev pub Passes : List Rule → (ℕ → Type 0) → Type 0
Passes rules P =
    (at : ℕ) (rule : Rule) → slice_get rules at ≡ Some rule → ((other : ℕ) → DeclaredProducer rules rule other → P other) → P at

descend : (rules : List Rule) → NoneWaitsForItself rules → (P : ℕ → Type 0) → Passes rules P → (fuel last : ℕ) (chain : List ℕ) (rule : Rule) →
    length rules ≤ fuel + length chain → IsChain rules last chain → slice_get rules last ≡ Some rule → P last
descend rules acyclic P passes zero last chain rule enough is here =
    absurd (no_room (length rules) (length chain) enough (length-le_from_distinct_below (last ∷ chain) (length rules) is.distinct is.within))
  where
    no_room : (n m : ℕ) → n ≤ 0 + m → suc m ≤ n → ⊥
    no_room n m enough short = omega arith
descend rules acyclic P passes (suc fuel) last chain rule enough is here =
    passes last rule here (λ next behind.
    let found = placed rules rule next behind in
    descend rules acyclic P passes fuel next (last ∷ chain) found.0 (room (length rules) fuel (length chain) enough)
    (longer rules last next chain rule acyclic is here behind (slice_get_within rules next found.0 found.1)) found.1)
  where
    room : (n f m : ℕ) → n ≤ suc f + m → n ≤ f + suc m
    room n f m enough = omega arith

pub by_producers : (rules : List Rule) → NoneWaitsForItself rules → (P : ℕ → Type 0) → Passes rules P → (at : ℕ) (rule : Rule) → slice_get rules at ≡ Some rule → P at
unfolding IsDistinct
by_producers rules acyclic P passes at rule here =
    descend rules acyclic P passes (length rules) at [] rule (omega arith)
    (record {
      distinct = (tt, tt);
      within = λ other among. elim (or_cases (nat_eq other at) false among) [
        | inl same ↦ subst (λ (n : ℕ). n < length rules) (sym (eqb-true other at same)) (slice_get_within rules at rule here)
        | inr none ↦ absurd (true≢false (sym none))
      ];
      behind = λ other among. absurd (true≢false (sym among));
    })
    here
