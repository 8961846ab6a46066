-- Rules with which a scan begins.
use Rattle.std.specs.Prelude.{◌≡◌, ◌≢◌, ◌↔◌, ◌+◌, ◌<◌, ◌≤◌, ℕ, Bool, true, false, List, Option, None, Some, Contains, Decides, length, slice_get}
use Rattle.std.proofs.Common.{refl, sym, ap, subst, ◌∙◌, inl, inr, take, take_all, get_or}
use Rattle.std.specs.FinMap as finite
use Rattle.std.specs.List.{HoldsAt}
use Rattle.std.proofs.lemmas.Bool.{true≢false}
use Rattle.std.proofs.lemmas.List.{get_or_default}
use Rattle.std.proofs.lemmas.List.Elements.{Contains-push_cases}
use Rattle.std.proofs.lemmas.Option.{slice_get_read}
use Rattle.tup_path.specs.Name.{Names}
use Rattle.tup_path.specs.Order.{by_names}
use Rattle.tup_stamp.specs.declared.Stamp.{Stamp}
use Rattle.tup_rule.specs.Rule.{writes}
use Rattle.tup_rule.specs.declared.rule.Rule.{Rule}
use Rattle.tup_record.specs.declared.run.RunRecord.{RunRecord}
use Rattle.tup_graph.specs.Above.{IsAbove}
use Rattle.tup_graph.specs.Graph.{GraphState}
use Rattle.tup_graph.specs.Scan.{IsTouched}
use Rattle.tup_graph.specs.Turned.{IsTurnedRun}
use Rattle.tup_closure.proofs.Asked.{taken}
use Rattle.tup_closure.proofs.Stepping.{above_as}
use Rattle.tup_scan_diff.specs.Present.{graph_of, seeing}
use Rattle.tup_scan_diff.specs.Touched.{AsksOther, WroteOther}
use Rattle.tup_scan_diff.specs.Turned.{AsksTurned, IsToldTurned}
use Rattle.tup_scan_diff.specs.declared.present.Present.{Present}

module _ (g : GraphState) (rule : Rule) (asks : List (Names × Option Stamp)) where
  pub other_here : (i : ℕ) (ask d : Names × Option Stamp) → i < length asks → ask ≡ get_or asks i d → (writes rule ask.0 ≡ false) × (ask.1 ≢ finite.get g.seen ask.0) → Decides true (AsksOther g rule asks)
  other_here i ask d less here other = (λ _. (ask.0, ask.1, ((i, less, get_or_default asks i ask d less ∙ sym here), other.0), other.1), λ _. refl)

  pub none_other : (i : ℕ) → length asks ≤ i → (AsksOther g rule (take i asks) → ⊥) → Decides false (AsksOther g rule asks)
  none_other i whole none = (λ e. absurd (true≢false (sym e)), λ h. absurd (none (subst (AsksOther g rule) (sym (take_all i asks whole)) h)))

module _ (g : GraphState) (n : ℕ) (rule : Rule) (run : RunRecord) (here : slice_get g.rules n ≡ Some rule) (ran : finite.get g.runs n ≡ Some run) where
  pub asks_touch : AsksOther g rule run.asks → Decides true (IsTouched g n)
  asks_touch other = (λ _. (rule, run, here, ran, inl other), λ _. refl)

  pub writes_touch : (b : Bool) → (AsksOther g rule run.asks → ⊥) → Decides b (WroteOther g run.writes) → Decides b (IsTouched g n)
  writes_touch b none wrote = (λ e. (rule, run, here, ran, inr (wrote.0 e)), λ touched. wrote.1 (wrote_of touched))
    where
      wrote_of : IsTouched g n → WroteOther g run.writes
      wrote_of (r, s, there, other_ran, what) =
          let rules : Some r ≡ Some rule = sym there ∙ here in
          let runs : Some s ≡ Some run = sym other_ran ∙ ran in
          let one : r ≡ rule = cc in
          let two : s ≡ run = cc in
          elim what [
            | inl asked ↦ absurd (none (subst (λ (t : Rule × RunRecord). AsksOther g t.0 t.1.asks) (λ i. (one i, two i)) asked))
            | inr wrote_other ↦ subst (λ (t : RunRecord). WroteOther g t.writes) two wrote_other
          ]

-- ---- the run of a rule was told of a folder that came or went

module _ (present : Present) (rule : Rule) (asks : List (Names × Option Stamp)) where
  pub turned_here : (i : ℕ) (ask d : Names × Option Stamp) → i < length asks → ask ≡ get_or asks i d → IsToldTurned present rule ask.0 ask.1 → Decides true (AsksTurned present rule asks)
  turned_here i ask d less here told = (λ _. (ask.0, (asked, told.0.1), told.1), λ _. refl)
    where
      asked : Contains asks (ask.0, None)
      asked = subst (λ (given : Option Stamp). Contains asks (ask.0, given)) told.0.0 (i, less, get_or_default asks i ask d less ∙ sym here)

  pub turned_more : (i : ℕ) (ask d : Names × Option Stamp) → i < length asks → ask ≡ get_or asks i d → (IsToldTurned present rule ask.0 ask.1 → ⊥) → (AsksTurned present rule (take i asks) → ⊥) → AsksTurned present rule (take (i + 1) asks) → ⊥
  turned_more i ask d less here untold none (path, (there, other), turned) =
      elim (Contains-push_cases (take i asks) ask (path, None) (subst (λ (l : List (Names × Option Stamp)). Contains l (path, None)) (taken asks i ask d less here) there)) [
        | inl before ↦ none (path, (before, other), turned)
        | inr last ↦ untold (subst (λ (a : Names × Option Stamp). IsToldTurned present rule a.0 a.1) (sym last) ((refl, other), turned))
      ]

  pub none_turned : (i : ℕ) → length asks ≤ i → (AsksTurned present rule (take i asks) → ⊥) → Decides false (AsksTurned present rule asks)
  none_turned i whole none = (λ e. absurd (true≢false (sym e)), λ h. absurd (none (subst (AsksTurned present rule) (sym (take_all i asks whole)) h)))

pub turned_run : (present : Present) (n : ℕ) (rule : Rule) (run : RunRecord) (b : Bool) → slice_get present.nodes.now.rules n ≡ Some rule → finite.get present.nodes.now.runs n ≡ Some run
    → Decides b (AsksTurned present rule run.asks) → Decides b (IsTurnedRun present.nodes.now (graph_of present) n)
turned_run present n rule run b here ran asks = (λ e. (rule, run, here, ran, asks.0 e), λ turned. asks.1 (asks_of turned))
  where
    asks_of : IsTurnedRun present.nodes.now (graph_of present) n → AsksTurned present rule run.asks
    asks_of (r, s, there, other_ran, what) =
        let rules : Some r ≡ Some rule = sym there ∙ here in
        let runs : Some s ≡ Some run = sym other_ran ∙ ran in
        let one : r ≡ rule = cc in
        let two : s ≡ run = cc in
        subst (λ (t : Rule × RunRecord). AsksTurned present t.0 t.1.asks) (λ i. (one i, two i)) what

-- the rule that stands at a place
pub rule_at : (rules slice : List Rule) (n : ℕ) (rule : Rule) → slice ≡ rules → (n < length slice) × HoldsAt (λ (y : Rule). rule ≡ y) slice n → slice_get rules n ≡ Some rule
rule_at rules slice n rule same at = ap (λ (l : List Rule). slice_get l n) (sym same) ∙ slice_get_read slice (length slice) n rule refl at.0 (at.1 rule)

-- ---- what lies above them, in the graph that sees other files

pub above_seeing : (g : GraphState) (stamps : finite.FinMap by_names Stamp) (Root : ℕ → Type 0) (roots numbers : List ℕ) → ((n : ℕ) → Contains roots n ↔ Root n) → ((n : ℕ) → Contains numbers n ↔ IsAbove g (Contains roots) n)
    → (n : ℕ) → Contains numbers n ↔ IsAbove (seeing g stamps) Root n
above_seeing g stamps Root roots numbers root above n = (λ h. to ((above n).0 h), λ h. (above n).1 (from h))
  where
    to : IsAbove g (Contains roots) n → IsAbove (seeing g stamps) Root n
    to (reads, over) = (reads, above_as g (seeing g stamps) (Contains roots) Root refl refl (λ m h. (root m).0 h) reads n over)

    from : IsAbove (seeing g stamps) Root n → IsAbove g (Contains roots) n
    from (reads, over) = (reads, above_as (seeing g stamps) g Root (Contains roots) refl refl (λ m h. (root m).1 h) reads n over)
