-- Rules that wait for one another over as many paths as there are rules: one of them waits for itself.
use Rattle.std.specs.Prelude.{◌≡◌, ◌⊎◌, ℕ, zero, suc, ◌<◌, ◌≤◌, true, false, List, [], ◌∷◌, Some, Contains, ◌==◌, length, nat_eq, slice_get}
use Rattle.std.proofs.Common.{refl, sym, ap, subst, ◌∙◌, inl, inr, arith}
use Rattle.std.specs.List.{IsDistinct, list_any}
use Rattle.std.proofs.lemmas.Bool.{cases_Bool, eq-eqb, eqb-true, false≢true, or_cases}
use Rattle.std.proofs.lemmas.List.Folds.{list_any-from_Any}
use Rattle.std.proofs.lemmas.Map.Steps.{length-le_from_distinct_below}
use Rattle.std.proofs.lemmas.Option.{same_Some, slice_get_within}
use Rattle.tup_path.specs.Name.{Names}
use Rattle.tup_rule.specs.Producer.{DeclaredProducer, MakesFor}
use Rattle.tup_rule.specs.declared.rule.Rule.{Rule}
use Rattle.tup_rule.proofs.Laws.{is_generated-at, maker-Some, producer-one, producer-trans}
use Rattle.tup_clean.proofs.Among.{is_generated-maker}
use Rattle.tup_clean.proofs.Deciding.{none_of}
use Rattle.tup_graph.specs.Graph.{GraphState}
use Rattle.tup_core.specs.Sound.{HasOneMaker, IsAcyclic}
use Rattle.tup_core.specs.Step.{is_reached}
use Rattle.tup_core.specs.declared.plan.Plan.{Plan}
use Rattle.tup_why.specs.Reason.{IsPlanned}
use Rattle.tup_why.specs.Waiting.{HasCircle, WaitsBy, WaitsOver}

module _ (g : GraphState) (plan : Plan) where
  -- the rules that are passed, the last first
  abbrev passed : (paths number last : ℕ) → WaitsOver paths g plan number last → List ℕ
  passed zero number last same = last ∷ []
  passed (suc paths) number last (between, path, over, waits) = last ∷ passed paths number between over

  as_many : (paths number last : ℕ) (over : WaitsOver paths g plan number last) → length (passed paths number last over) ≡ suc paths
  as_many zero number last same = refl
  as_many (suc paths) number last (between, path, over, waits) = ap suc (as_many paths number between over)

  -- each of them waits for the last
  waits_from : (paths number last : ℕ) (over : WaitsOver paths g plan number last) (q : ℕ) → list_any (nat_eq q) (passed paths number last over) ≡ true
      → (some : ℕ) × WaitsOver some g plan q last
  waits_from zero number last same q found = elim (or_cases (nat_eq q last) false found) [
    | inl this ↦ (zero, eqb-true q last this)
    | inr none ↦ absurd (false≢true none)
  ]
  waits_from (suc paths) number last (between, path, over, waits) q found =
      elim (or_cases (nat_eq q last) (list_any (nat_eq q) (passed paths number between over)) found) [
        | inl this ↦ (zero, eqb-true q last this)
        | inr later ↦ let (some, way) = waits_from paths number between over q later in (suc some, (between, path, way, waits))
      ]

  -- one of them waits for itself, or no two are the same
  round : (paths number last : ℕ) (over : WaitsOver paths g plan number last) → HasCircle g plan ⊎ IsDistinct nat_eq (passed paths number last over)
  unfolding IsDistinct
  round zero number last same = inr (tt, tt)
  round (suc paths) number last (between, path, over, waits) = elim (round paths number between over) [
    | inl circle ↦ inl circle
    | inr apart ↦
        elim (cases_Bool (list_any (nat_eq last) (passed paths number between over))) [
          | inl again ↦ let (some, way) = waits_from paths number between over last again in inl (last, some, (between, path, way, waits))
          | inr fresh ↦ inr (none_of last (passed paths number between over) fresh, apart)
        ]
  ]

  within : (paths number last : ℕ) (rule : Rule) → IsPlanned plan number rule → (over : WaitsOver paths g plan number last) (q : ℕ)
      → list_any (nat_eq q) (passed paths number last over) ≡ true → q < length plan.rules
  within zero number last rule planned same q found = elim (or_cases (nat_eq q last) false found) [
    | inl this ↦ subst (λ (n : ℕ). n < length plan.rules) (same ∙ sym (eqb-true q last this)) (slice_get_within plan.rules number rule planned.here)
    | inr none ↦ absurd (false≢true none)
  ]
  within (suc paths) number last rule planned (between, path, over, waits) q found =
      elim (or_cases (nat_eq q last) (list_any (nat_eq q) (passed paths number between over)) found) [
        | inl this ↦ subst (λ (n : ℕ). n < length plan.rules) (sym (eqb-true q last this)) (slice_get_within plan.rules last waits.other waits.made.here)
        | inr later ↦ within paths number between rule planned over q later
      ]

  pub in_circle : (paths number last : ℕ) (rule : Rule) → paths ≡ length plan.rules → IsPlanned plan number rule → WaitsOver paths g plan number last → HasCircle g plan
  in_circle paths number last rule all planned over = elim (round paths number last over) [
    | inl circle ↦ circle
    | inr apart ↦
        let few : length (passed paths number last over) ≤ length plan.rules =
        length-le_from_distinct_below (passed paths number last over) (length plan.rules) apart (within paths number last rule planned over) in
        let many : length (passed paths number last over) ≡ suc paths = as_many paths number last over in
        absurd (omega (arith, few, many, all))
  ]

-- ---- where no rule is its own declared producer, none waits for itself

module _ (g : GraphState) (plan : Plan) (one : HasOneMaker plan) where
  is_reached-contains : (at : ℕ) → Contains plan.reach at → is_reached plan at ≡ true
  is_reached-contains at h = list_any-from_Any (λ number. at == number) plan.reach (h.0, at, h.1, h.2, eq-eqb at at refl)

  -- who waits for a rule has it as the maker of what it declares
  makes : (number made_by : ℕ) (path : Names) (waits : WaitsBy g plan number made_by path) → MakesFor plan.rules waits.rule made_by
  makes number made_by path waits =
      let any = is_generated-at plan.rules path made_by waits.other waits.made.here waits.wrote in
      let found = is_generated-maker plan.rules path any in
      let first = maker-Some plan.rules path found.0 found.1 in
      let same : made_by ≡ found.0 = one made_by found.0 waits.other first.rule path (is_reached-contains made_by waits.made.reached) waits.made.here first.here waits.wrote first.writes_it in
      (path, waits.declared, found.1 ∙ ap Some (sym same))

  produces : (paths number last : ℕ) (rule : Rule) → slice_get plan.rules number ≡ Some rule → WaitsOver (suc paths) g plan number last → DeclaredProducer plan.rules rule last
  produces zero number last rule here (between, path, same, waits) =
      let this : waits.rule ≡ rule = same_Some waits.rule rule (sym waits.planned.here ∙ subst (λ (n : ℕ). slice_get plan.rules n ≡ Some rule) same here) in
      subst (λ (r : Rule). DeclaredProducer plan.rules r last) this (producer-one plan.rules waits.rule last (makes between last path waits))
  produces (suc paths) number last rule here (between, path, over, waits) =
      producer-trans plan.rules rule waits.rule between last (produces paths number between rule here over) waits.planned.here
      (producer-one plan.rules waits.rule last (makes between last path waits))

  pub none_in_circle : IsAcyclic plan.rules → HasCircle g plan → ⊥
  none_in_circle acyclic (at, paths, (between, path, over, waits)) =
      acyclic at waits.other waits.made.here (produces paths at at waits.other waits.made.here (between, path, over, waits))
