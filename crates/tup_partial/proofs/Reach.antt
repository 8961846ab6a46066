-- The rules that recorded reads lead to are rules; in a kept graph the flagged ones have all of them.
use Rattle.std.proofs.Common.{◌≡◌, ◌==◌, ◌↔◌, ℕ, zero, suc, ◌<◌, true, List, length, Some, Contains, get_or, slice_get, slice_index_or, sym, subst}
use Rattle.std.specs.List.{list_any}
use Rattle.std.proofs.lemmas.Bool.{ltb-true, eqb-true}
use Rattle.std.proofs.lemmas.List.Folds.{Any-from_list_any}
use Rattle.std.proofs.lemmas.Option.{slice_get-get_or}
use Rattle.tup_path.specs.Name.{Content}
use Rattle.tup_rule.specs.declared.rule.Rule.{Rule}
use Rattle.tup_runner.specs.Next.{Next}
use Rattle.tup_graph.specs.Above.{AboveOver}
use Rattle.tup_graph.specs.Graph.{GraphState, is_rule, is_flagged}
use Rattle.tup_graph.specs.Kept.{IsKept}
use Rattle.tup_graph.specs.Records.{Language}
use Rattle.tup_closure.specs.Readers.{AreRunsOfRules}
use Rattle.tup_partial.specs.Plan.{AreFlagsOfRules, IsToRun}

module _ (g : GraphState) (runs : AreRunsOfRules g) where
  over_rule : (Root : ℕ → Type 0) → ((n : ℕ) → Root n → is_rule g n ≡ true) → (reads number : ℕ) → AboveOver reads g Root number → is_rule g number ≡ true
  over_rule Root are zero number root = are number root
  over_rule Root are (suc reads) number (before, maker, below, here, (path, (run, given, ran, asks), wrote)) = runs number run ran

  -- what is to be run is a rule
  pub to_run_is_rule : AreFlagsOfRules g → (number : ℕ) → IsToRun g number → is_rule g number ≡ true
  to_run_is_rule flags number is = over_rule (λ root. is_flagged g root ≡ true) flags is.0 number is.1

  -- and has its place among the rules
  pub in_range : AreFlagsOfRules g → (reach : List ℕ) → ((number : ℕ) → Contains reach number ↔ IsToRun g number) → (at : ℕ) → list_any (λ number. at == number) reach ≡ true → at < length g.rules
  in_range flags reach are at inside =
      let found = Any-from_list_any (λ number. at == number) reach inside in
      let same : at ≡ found.1 = eqb-true at found.1 found.4 in
      let there : Contains reach at = (found.0, found.2, subst (λ (n : ℕ). slice_index_or reach found.0 n ≡ n) (sym same) found.3) in
      ltb-true at (length g.rules) (to_run_is_rule flags at ((are at).0 there))

  module _ (next : Next) (language : Language) (known : List Content) (kept : IsKept next language known g) where
    over_flagged : (reads number : ℕ) → AboveOver reads g (λ root. is_flagged g root ≡ true) number → is_flagged g number ≡ true
    over_flagged zero number root = root
    over_flagged (suc reads) number (before, maker, below, here, (path, (run, given, ran, asks), wrote)) =
        let rule = reader number (ltb-true number (length g.rules) (runs number run ran)) in
        kept.agrees.upward before number maker rule.0 run path given here (over_flagged reads before below) rule.1 ran asks wrote
      where
        reader : (n : ℕ) → n < length g.rules → (rule : Rule) × (slice_get g.rules n ≡ Some rule)
        reader n within = (get_or g.rules n maker, slice_get-get_or g.rules n maker within)

    pub to_run_is_flagged : (number : ℕ) → IsToRun g number → is_flagged g number ≡ true
    to_run_is_flagged number is = over_flagged is.0 number is.1
