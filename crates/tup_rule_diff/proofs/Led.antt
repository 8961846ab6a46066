-- The graph of the rules and of the records that they keep, and the steps of a swap.
use Rattle.std.specs.Prelude.{◌≡◌, ◌↔◌, ℕ, List, Option, None, Some, Contains, length, slice_get}
use Rattle.std.proofs.Common.{refl, sym, ap, subst, ◌∙◌, inl, inr}
use Rattle.std.specs.Ordering.{nat_cmp}
use Rattle.std.specs.Cmp.{nat_cmp_total}
use Rattle.std.specs.FinMap as finite
use Rattle.std.specs.FinMap.{nat_cmp-IsAntisymmetric}
use Rattle.std.proofs.lemmas.Option.{none-some, same_Some}
use Rattle.tup_path.specs.Name.{Names}
use Rattle.tup_rule.specs.declared.question.Reading.{Reading}
use Rattle.tup_rule.specs.declared.rule.Rule.{Rule}
use Rattle.tup_record.specs.declared.run.RunRecord.{RunRecord}
use Rattle.tup_graph.specs.Edits.{edited_by}
use Rattle.tup_graph.specs.Graph.{GraphState}
use Rattle.tup_graph.specs.Swap.{WasAt, ReadsNew}
use Rattle.tup_graph.specs.declared.edit.Edit.{Edit}
use Rattle.tup_closure.specs.Steps.{HasStepped, HasSteppedAtMost}
use Rattle.tup_closure.proofs.Members.{number-decides}
use Rattle.tup_closure.proofs.Stepping.{at_most, at_most_as, none_stepped, stepped_as}
use Rattle.tup_rule_diff.specs.Before.{AreNumbersBefore}
use Rattle.tup_rule_diff.specs.Edits.{AreSwapEdits, IsLed, IsRunNow, SwapStepped, SwapSteppedAtMost, led_by}
use Rattle.tup_rule_diff.specs.Numbered.{numbered}
use Rattle.tup_rule_diff.specs.Running.{run_at}
use Rattle.tup_rule_diff.proofs.Kept.{run_from, run_to}
use Rattle.tup_rule_diff.proofs.Leaving.{led_graph, led_is, runs_after, swapped}
use Rattle.tup_rule_diff.proofs.Puts.{put_there, there_put}
use Rattle.tup_rule_diff.proofs.Swapping.{edits_leave, one_before}

-- who reads an output of a new rule does so in a graph with the same rules and records
reads_as : (g a b : GraphState) → a.rules ≡ b.rules → a.runs ≡ b.runs → (n : ℕ) → ReadsNew g a n → ReadsNew g b n
reads_as g a b rules runs n (other, maker, here, new, (path, (run, given, ran, asked), wrote)) = (
  other,
  maker,
  subst (λ (l : List Rule). slice_get l other ≡ Some maker) rules here,
  new,
  (path, (run, given, subst (λ (m : finite.FinMap nat_cmp RunRecord). finite.get m n ≡ Some run) runs ran, asked), wrote),
)

module _ (g : GraphState) (rules : List Rule) where
  -- a rule keeps one record
  one_run : (number : ℕ) (run other : RunRecord) → IsRunNow g rules number run → IsRunNow g rules number other → run ≡ other
  one_run number run other (rule, before, here, was, ran) (second, earlier, there, was_there, ran_there) =
      let one : second ≡ rule = same_Some second rule (sym there ∙ here) in
      let at : before ≡ earlier = one_before g rule before earlier was (subst (λ (r : Rule). WasAt g r earlier) one was_there) in
      same_Some run other (sym ran ∙ ap (finite.get g.runs) at ∙ ran_there)

  module _ (a b : GraphState) (one : IsLed g rules a) (other : IsLed g rules b) where
    found : (q : ℕ) (x y : Option RunRecord) → finite.get a.runs q ≡ x → finite.get b.runs q ≡ y → finite.get a.runs q ≡ finite.get b.runs q
    found q (Some run) y e f = e ∙ sym ((other.runs_are q run).1 ((one.runs_are q run).0 e))
    found q None (Some run) e f = (one.runs_are q run).1 ((other.runs_are q run).0 f) ∙ sym f
    found q None None e f = e ∙ sym f

    same_runs : a.runs ≡ b.runs
    same_runs = finite.same_map nat_cmp_total nat_cmp-IsAntisymmetric a.runs b.runs (λ q. found q (finite.get a.runs q) (finite.get b.runs q) refl refl)

    same_rules : a.rules ≡ b.rules
    same_rules = one.rules_are ∙ sym other.rules_are

    to : (n : ℕ) → ReadsNew g a n → ReadsNew g b n
    to = reads_as g a b same_rules same_runs

    from : (n : ℕ) → ReadsNew g b n → ReadsNew g a n
    from = reads_as g b a (sym same_rules) (sym same_runs)

    -- all such graphs take the same steps
    pub same_steps : (before after : ℕ) → HasStepped a (ReadsNew g a) before after → HasStepped b (ReadsNew g b) before after
    same_steps = stepped_as a b (ReadsNew g a) (ReadsNew g b) same_rules same_runs to from

    same_at_most : (before after : ℕ) → HasSteppedAtMost a (ReadsNew g a) before after → HasSteppedAtMost b (ReadsNew g b) before after
    same_at_most = at_most_as a b (ReadsNew g a) (ReadsNew g b) same_rules same_runs to from

  -- who was refused before it looked has taken no step
  pub swap_none : (steps : ℕ) → SwapSteppedAtMost g rules steps steps
  swap_none steps = λ led is. none_stepped led (ReadsNew g led) steps

  -- each such graph takes the steps of a swap
  pub steps_of : (led : GraphState) → IsLed g rules led → (before after : ℕ) → SwapStepped g rules before after → HasStepped led (ReadsNew g led) before after
  steps_of led is before after (other, are, stepped) = same_steps other led are is before after stepped

  -- the steps of a swap are at most the steps of a swap
  pub swap_no_more : (before after : ℕ) → SwapStepped g rules before after → SwapSteppedAtMost g rules before after
  swap_no_more before after (led, is, stepped) = λ other are. same_at_most led other is are before after (at_most stepped)

  -- the records that rules keep, put into a map
  module _ (runs : List (ℕ × RunRecord)) (are : (number : ℕ) (run : RunRecord) → Contains runs (number, run) ↔ IsRunNow g rules number run) where
    put_in : (number : ℕ) (run : RunRecord) → finite.get (runs_after runs) number ≡ Some run → IsRunNow g rules number run
    put_in number run e = elim (put_there nat_cmp_total nat_cmp-IsAntisymmetric number-decides runs finite.empty number run e) [
      | inl there ↦ (are number run).0 there
      | inr none ↦ absurd (none-some run (sym (finite.get-empty nat_cmp number) ∙ none))
    ]

    is_put : (number : ℕ) (run : RunRecord) → IsRunNow g rules number run → finite.get (runs_after runs) number ≡ Some run
    is_put number run is =
        let there = there_put nat_cmp_total nat_cmp-IsAntisymmetric number-decides runs finite.empty number run ((are number run).1 is) in
        there.1 ∙ ap Some (one_run number there.0 run (put_in number there.0 there.1) is)

    -- a graph with these rules and this map is one of the rules and the records that they keep
    leads : (led : GraphState) → led.rules ≡ rules → led.runs ≡ runs_after runs → IsLed g rules led
    leads led same kept = record {
      rules_are = same;
      runs_are = λ number run. (
        λ e. put_in number run (sym (ap (λ (m : finite.FinMap nat_cmp RunRecord). finite.get m number) kept) ∙ e),
        λ is. ap (λ (m : finite.FinMap nat_cmp RunRecord). finite.get m number) kept ∙ is_put number run is,
      );
    }

  -- the graph that a swap leaves is one
  pub edits_lead : (fresh : List (Names × Reading)) (gone : List Names) (edits : List Edit) → AreSwapEdits g fresh gone rules edits → length g.places ≡ length g.rules → IsLed g rules (edited_by g edits)
  edits_lead fresh gone edits are level =
      subst (IsLed g rules) (sym (edits_leave g fresh gone rules edits are level))
      (leads are.runs are.runs_are (swapped g fresh gone rules are.runs are.owned are.flags) refl refl)

  module _ (befores : List (Option ℕ)) (are : AreNumbersBefore g rules befores) (runs : List (ℕ × RunRecord)) (kept : runs ≡ numbered (run_at g) 0 befores) where
    in_runs : (number : ℕ) (run : RunRecord) → Contains runs (number, run) ↔ IsRunNow g rules number run
    in_runs number run = (
      λ h. run_to g rules befores are number run (subst (λ (l : List (ℕ × RunRecord)). Contains l (number, run)) kept h),
      λ is. subst (λ (l : List (ℕ × RunRecord)). Contains l (number, run)) (sym kept) (run_from g rules befores are number run is),
    )

    -- the graph that was made is one of these
    pub is_led : IsLed g rules (led_by rules runs)
    is_led = subst (IsLed g rules) (sym (led_is rules runs)) (leads runs in_runs (led_graph rules runs) refl refl)

    module _ (before after : ℕ) where
      pub swap_stepped : HasStepped (led_by rules runs) (ReadsNew g (led_by rules runs)) before after → SwapStepped g rules before after
      swap_stepped stepped = (led_by rules runs, is_led, stepped)

      pub swap_less : HasSteppedAtMost (led_by rules runs) (ReadsNew g (led_by rules runs)) before after → SwapSteppedAtMost g rules before after
      swap_less fewer = λ led is. same_at_most (led_by rules runs) led is_led is before after fewer

      pub swap_at_most : HasStepped (led_by rules runs) (ReadsNew g (led_by rules runs)) before after → SwapSteppedAtMost g rules before after
      swap_at_most stepped = swap_less (at_most stepped)
