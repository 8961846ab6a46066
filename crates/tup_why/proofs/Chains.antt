-- Chains that grow at their front, as a walk goes back from a rule.
use Rattle.std.specs.Prelude.{◌≡◌, ℕ, zero, suc, ◌+◌, true, List, [], ◌∷◌, ◌++◌, Option, None, Some, IsSome, reverse}
use Rattle.std.proofs.Common.{sym, ap, subst, ◌∙◌, add-one}
use Rattle.std.proofs.lemmas.List.{reverse-append}
use Rattle.std.proofs.lemmas.Option.{none-some}
use Rattle.std.specs.BTreeMap.{get}
use Rattle.std.specs.FinMap as finite
use Rattle.std.specs.Ordering.{nat_cmp}
use Rattle.tup_path.specs.Name.{Names}
use Rattle.tup_rule.specs.Rule.{writes}
use Rattle.tup_rule.specs.declared.rule.Rule.{Rule}
use Rattle.tup_graph.specs.Above.{HasAsked}
use Rattle.tup_graph.specs.Graph.{GraphState}
use Rattle.tup_core.specs.declared.plan.Plan.{Plan}
use Rattle.tup_why.specs.Cause.{AreCauses, IsCause}
use Rattle.tup_why.specs.Reason.{GoesOn, IsPlanned, LeadsTo}
use Rattle.tup_why.specs.Steps.{StepsTo}
use Rattle.tup_why.specs.Waiting.{HasCircle, WaitsBy, WaitsOver}
use Rattle.tup_why.specs.declared.cause.Cause.{Cause}
use Rattle.tup_why.specs.declared.cause.Cause.TheVariants as causes
use Rattle.tup_why.specs.declared.reason.Link.{Link}
use Rattle.tup_why.specs.declared.reason.Link.TheVariants.{Reads, Writes}
use Rattle.tup_why.specs.declared.reason.Root.{Root}
use Rattle.tup_why.specs.declared.reason.Root.TheVariants.{Changed, NewRule, Unfinished}
use Rattle.tup_why.specs.declared.reasons.Reasons.{Reasons}
use Rattle.tup_why.specs.declared.reasons.Step.{Step}
use Rattle.tup_why.specs.declared.reasons.Step.TheVariants.{Begins, Back, Unplanned}

-- ---- links that are listed the last first

pub reversed_one : (old : List Link) (link : Link) → reverse (old ++ link ∷ []) ≡ link ∷ reverse old
reversed_one old link = reverse-append old (link ∷ [])

pub reversed_two : (old : List Link) (read wrote : Link) → reverse ((old ++ read ∷ []) ++ wrote ∷ []) ≡ wrote ∷ read ∷ reverse old
reversed_two old read wrote = reverse-append (old ++ read ∷ []) (wrote ∷ []) ∙ ap (λ (l : List Link). wrote ∷ l) (reversed_one old read)

-- ---- one step

-- where a walk goes from a rule with this cause, and with which links
abbrev pub step_of : Cause → ℕ → Step
step_of causes.New at = Begins (NewRule at)
step_of causes.Unfinished at = Begins (Unfinished at)
step_of (causes.Changed path) at = Begins (Changed path)
step_of (causes.ReadsNew maker path) at = Begins (NewRule maker)
step_of (causes.Waits maker path) at = Back maker

abbrev pub links_of : Cause → ℕ → List Link → List Link
links_of causes.New at links = links
links_of causes.Unfinished at links = links
links_of (causes.Changed path) at links = Reads at ∷ links
links_of (causes.ReadsNew maker path) at links = Writes path ∷ Reads at ∷ links
links_of (causes.Waits maker path) at links = Writes path ∷ Reads at ∷ links

module _ (g : GraphState) (plan : Plan) where
  -- over an output that a rule asked, the chain goes back to its maker
  pub over_output : (at number maker : ℕ) (links : List Link) (rule other : Rule) (path : Names) → GoesOn g plan at links number → IsPlanned plan at rule → IsPlanned plan maker other
      → writes other path ≡ true → HasAsked g at path → GoesOn g plan maker (Writes path ∷ Reads at ∷ links) number
  over_output at number maker links rule other path goes planned made wrote asked = (other, rule, made, wrote, planned, asked, goes)

  pub begins_new : (at number : ℕ) (links : List Link) (rule : Rule) → GoesOn g plan at links number → IsPlanned plan at rule → finite.get g.runs at ≡ None
      → LeadsTo g plan (NewRule at) links number
  begins_new at number links rule goes planned none = (rule, planned, none, goes)

  -- what a step comes to where a cause is true
  pub stepped : (at number : ℕ) (links : List Link) (rule : Rule) (cause : Cause) → GoesOn g plan at links number → IsPlanned plan at rule → IsCause g plan at rule cause
      → StepsTo g plan at number (links_of cause at links) (step_of cause at)
  stepped at number links rule causes.New goes planned none = (rule, planned, none, goes)
  stepped at number links rule causes.Unfinished goes planned unfinished = (rule, planned, unfinished, goes)
  stepped at number links rule (causes.Changed path) goes planned changed = (rule, planned, changed, goes)
  stepped at number links rule (causes.ReadsNew maker path) goes planned reads = (
    reads.other,
    reads.made,
    reads.unrecorded,
    over_output at number maker links rule reads.other path goes planned reads.made reads.wrote reads.asked,
  )
  stepped at number links rule (causes.Waits maker path) goes planned waits = (
    over_output at number maker links rule waits.other path goes planned waits.made waits.wrote waits.asked,
    path,
    waits,
  )

  -- ---- many steps

  -- where a walk is that began at a planned rule, there is a planned rule
  pub planned_there : (paths number last : ℕ) (rule : Rule) → IsPlanned plan number rule → WaitsOver paths g plan number last → (other : Rule) × IsPlanned plan last other
  planned_there zero number last rule planned same = (rule, subst (λ (n : ℕ). IsPlanned plan n rule) same planned)
  planned_there (suc paths) number last rule planned (between, path, over, waits) = (waits.other, waits.made)

  pub one_more : (paths number between last : ℕ) (path : Names) → WaitsOver paths g plan number between → WaitsBy g plan between last path → WaitsOver (paths + 1) g plan number last
  one_more paths number between last path over waits = subst (λ (n : ℕ). WaitsOver n g plan number last) (sym (add-one paths)) (between, path, over, waits)

  pub none_there : (paths number last : ℕ) → WaitsOver paths g plan number last → ((rule : Rule) → IsPlanned plan last rule → ⊥)
      → (rule : Rule) → IsPlanned plan number rule → HasCircle g plan
  none_there paths number last over none rule planned = let (other, there) = planned_there paths number last rule planned over in absurd (none other there)

  -- a walk goes back to a rule for which this one waits
  pub went_back : (paths number at maker : ℕ) (links : List Link) (step : Step) → step ≡ Back maker → WaitsOver paths g plan number at → StepsTo g plan at number links step
      → GoesOn g plan maker links number × WaitsOver (paths + 1) g plan number maker
  went_back paths number at maker links step is over steps =
      let (goes, path, waits) = subst (StepsTo g plan at number links) is steps in
      (goes, one_more paths number at maker path over waits)

  -- it comes to the root
  pub came_to_root : (number at : ℕ) (root : Root) (links : List Link) (step : Step) → step ≡ Begins root → StepsTo g plan at number links step → LeadsTo g plan root links number
  came_to_root number at root links step is steps = subst (StepsTo g plan at number links) is steps

  -- it comes to a rule that isn't planned
  pub came_to_none : (number at : ℕ) (links : List Link) (step : Step) → step ≡ Unplanned → StepsTo g plan at number links step → (rule : Rule) → IsPlanned plan at rule → ⊥
  came_to_none number at links step is steps = subst (StepsTo g plan at number links) is steps

  module _ (reasons : Reasons) (are : AreCauses g plan reasons) where
    -- a step by the cause in the table, with the links of the step behind those so far
    pub steps_by : (at number : ℕ) (old new : List Link) (cause : Cause) → get nat_cmp reasons.causes at ≡ Some cause → reverse new ≡ links_of cause at (reverse old)
        → GoesOn g plan at (reverse old) number → StepsTo g plan at number (reverse new) (step_of cause at)
    steps_by at number old new cause here same goes =
        let (rule, planned, is) = are.true_of at cause here in
        subst (λ (l : List Link). StepsTo g plan at number l (step_of cause at)) (sym same) (stepped at number (reverse old) rule cause goes planned is)

    pub not_in_table : (at : ℕ) → get nat_cmp reasons.causes at ≡ None → (rule : Rule) → IsPlanned plan at rule → ⊥
    not_in_table at none rule planned = by (get nat_cmp reasons.causes at) none (are.each at rule planned.reached planned.here)
      where
        by : (found : Option Cause) → found ≡ None → IsSome found → ⊥
        by None e some = absurd (cc)
        by (Some cause) e some = none-some cause (sym e)
