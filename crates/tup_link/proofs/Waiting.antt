-- The graph of rules: a rule waits for another just where its list of producers has that one.
use Rattle.std.proofs.Common.{◌≡◌, ℕ, zero, suc, ◌<◌, true, false, List, [], ◌∷◌, ◌++◌, Option, Some, None, option_map, unwrap_or, refl, sym, ap, subst, ◌∙◌, inl, inr, ◌⊎◌, arith}
use Rattle.std.specs.List.{slice_get, filter_map, cons_option, Contains}
use Rattle.std.proofs.lemmas.Bool.{or_cases, or_left, or_right}
use Rattle.std.proofs.lemmas.List.{length-map}
use Rattle.std.proofs.lemmas.List.Folds.{list_any-append}
use Rattle.std.proofs.lemmas.Option.{slice_get-map, slice_get_within, same_Some, none-some}
use Rattle.tup_path.specs.Name.{Names}
use Rattle.tup_path.specs.Order.{same_path}
use Rattle.tup_path.proofs.Same.{same_path-decides}
use Rattle.tup_rule.specs.declared.rule.Rule.{Rule}
use Rattle.tup_rule.specs.Rule.{among, maker}
use Rattle.tup_rule.specs.Producer.{MakesFor, ProducerOver}
use Rattle.tup_rule.proofs.Laws.{maker-Some}
use Rattle.tup_link.specs.Circle.{WaitsFor, InTurn, IsRound, NoneWaitsForItself}
use Rattle.tup_link.specs.Graph.{led_to, Leads, LeadsOver, IsWithin, HasNoCircle}
use Rattle.tup_rule.specs.Makers.{producers}
use Rattle.tup_link.specs.Makers.{all_producers}

-- ---- members of a list, by recursion

has_head : (x : ℕ) (xs : List ℕ) → Contains (x ∷ xs) x
has_head x xs = (0, omega arith, refl)

has_tail : (x y : ℕ) (xs : List ℕ) → Contains xs y → Contains (x ∷ xs) y
has_tail x y xs (k, less, here) = (suc k, omega (arith, less), here)

has_none : (y : ℕ) → Contains [] y → ⊥
has_none y (k, less, here) = omega (arith, less)

has_cases : (x y : ℕ) (xs : List ℕ) → Contains (x ∷ xs) y → (x ≡ y) ⊎ Contains xs y
has_cases x y xs (zero, less, here) = inl here
has_cases x y xs (suc k, less, here) = inr (k, omega (arith, less), here)

-- ---- what a list of producers has

module _ (rules : List Rule) where
  abbrev Made : List Names → ℕ → Type 0
  Made paths at = (path : Names) × (among path paths ≡ true) × (maker path rules ≡ Some at)

  made_from : (paths : List Names) (at : ℕ) → Contains (filter_map (λ path. maker path rules) paths) at → Made paths at
  made_from [] at has = absurd (has_none at has)
  made_from (path ∷ paths) at has = by (maker path rules) refl (λ rest. made_from paths at rest) has
    where
      later : Made paths at → Made (path ∷ paths) at
      later found = (found.0, or_right (same_path found.0 path) (among found.0 paths) found.1, found.2)

      by : (m : Option ℕ) → maker path rules ≡ m → (Contains (filter_map (λ path. maker path rules) paths) at → Made paths at) → Contains (cons_option m (filter_map (λ path. maker path rules) paths)) at → Made (path ∷ paths) at
      by None e more has = later (more has)
      by (Some other) e more has = elim (has_cases other at (filter_map (λ path. maker path rules) paths) has) [
        | inl same ↦ (path, or_left (same_path path path) (among path paths) ((same_path-decides path path).1 refl), e ∙ ap Some same)
        | inr rest ↦ later (more rest)
      ]

  made_of : (paths : List Names) (path : Names) (at : ℕ) → among path paths ≡ true → maker path rules ≡ Some at → Contains (filter_map (λ path. maker path rules) paths) at
  made_of [] path at found made = absurd (let h : false ≡ true = found in cc)
  made_of (first ∷ paths) path at found made = elim (or_cases (same_path path first) (among path paths) found) [
    | inl same ↦ by_here (maker first rules) (sym (ap (λ (p : Names). maker p rules) ((same_path-decides path first).0 same)) ∙ made)
    | inr rest ↦ by_rest (maker first rules) (made_of paths path at rest made)
  ]
    where
      by_here : (m : Option ℕ) → m ≡ Some at → Contains (cons_option m (filter_map (λ path. maker path rules) paths)) at
      by_here None e = absurd (none-some at e)
      by_here (Some other) e = subst (λ (x : ℕ). Contains (other ∷ filter_map (λ path. maker path rules) paths) x) (same_Some other at e) (has_head other _)

      by_rest : (m : Option ℕ) → Contains (filter_map (λ path. maker path rules) paths) at → Contains (cons_option m (filter_map (λ path. maker path rules) paths)) at
      by_rest None has = has
      by_rest (Some other) has = has_tail other at _ has

  -- ---- the graph

  list_at : (at : ℕ) → led_to (all_producers rules) at ≡ unwrap_or (option_map (producers rules) (slice_get rules at)) []
  list_at at = ap (λ (o : Option (List ℕ)). unwrap_or o []) (slice_get-map (producers rules) rules at)

  pub waits_from : (at next : ℕ) → Leads (all_producers rules) at next → WaitsFor rules at next
  waits_from at next leads = by (slice_get rules at) refl (subst (λ (l : List ℕ). Contains l next) (list_at at) leads)
    where
      by : (o : Option Rule) → slice_get rules at ≡ o → Contains (unwrap_or (option_map (producers rules) o) []) next → WaitsFor rules at next
      by None e has = absurd (has_none next has)
      by (Some rule) e has =
          let found = made_from (rule.inputs ++ rule.order) next has in
          (rule, e, (found.0, sym (list_any-append (same_path found.0) rule.inputs rule.order) ∙ found.1, found.2))

  pub waits_of : (at next : ℕ) (rule : Rule) → slice_get rules at ≡ Some rule → MakesFor rules rule next → Leads (all_producers rules) at next
  waits_of at next rule here (path, declared, made) =
      subst (λ (l : List ℕ). Contains l next) (sym (list_at at ∙ ap (λ (o : Option Rule). unwrap_or (option_map (producers rules) o) []) here))
      (made_of (rule.inputs ++ rule.order) path next (list_any-append (same_path path) rule.inputs rule.order ∙ declared) made)

  pub within : IsWithin (all_producers rules)
  within at next leads =
      let waits = waits_from at next leads in
      let found = maker-Some rules waits.2.0 next waits.2.2 in
      subst (λ n. next < n) (sym (length-map rules (producers rules))) (slice_get_within rules next found.rule found.here)

  over : (between at end : ℕ) (rule : Rule) → slice_get rules at ≡ Some rule → ProducerOver between rules rule end → LeadsOver between (all_producers rules) at end
  over zero at end rule here makes = waits_of at end rule here makes
  over (suc between) at end rule here (next, other, makes, there, rest) = (next, waits_of at next rule here makes, over between next end other there rest)

  pub none_waits : HasNoCircle (all_producers rules) → NoneWaitsForItself rules
  none_waits none at rule here (between, producer) = none at between (over between at at rule here producer)

  turn_from : (more : List ℕ) (first end : ℕ) → InTurn (Leads (all_producers rules)) first more end → InTurn (WaitsFor rules) first more end
  turn_from [] first end leads = waits_from first end leads
  turn_from (next ∷ more) first end (leads, rest) = (waits_from first next leads, turn_from more next end rest)

  pub round_from : (places : List ℕ) → IsRound (Leads (all_producers rules)) places → IsRound (WaitsFor rules) places
  round_from places round = record { first = round.first; more = round.more; are = round.are; leads = turn_from round.more round.first round.first round.leads; once = round.once }
