-- A circle of rules that wait for each other: each of them waits for itself.
use Rattle.std.proofs.Common.{◌≡◌, ℕ, suc, List, [], ◌∷◌, Some}
use Rattle.std.specs.List.{slice_get}
use Rattle.tup_rule.specs.declared.rule.Rule.{Rule}
use Rattle.tup_rule.specs.Producer.{DeclaredProducer}
use Rattle.tup_link.specs.Circle.{WaitsFor, InTurn, IsCircle, NoneWaitsForItself}

module _ (rules : List Rule) where
  -- a rule that leads to an end waits for what makes its files there
  waits_for_end : (more : List ℕ) (at end : ℕ) → InTurn (WaitsFor rules) at more end → (rule : Rule) × (slice_get rules at ≡ Some rule) × DeclaredProducer rules rule end
  waits_for_end [] at end (rule, here, makes) = (rule, here, (0, makes))
  waits_for_end (next ∷ more) at end ((rule, here, makes), rest) =
      let on = waits_for_end more next end rest in
      (rule, here, (suc on.2.0, (next, on.0, makes, on.1, on.2.1)))

  pub no_circle : (places : List ℕ) → IsCircle rules places → NoneWaitsForItself rules → ⊥
  no_circle places circle none =
      let waits = waits_for_end circle.round.more circle.round.first circle.round.first circle.round.leads in
      none circle.round.first waits.0 waits.1 waits.2
