-- What a machine's seat is told of an ask, and what is looked up for it.
use Rattle.std.proofs.Common.{◌≡◌, ℕ, List, length, Option, None, Some, sym, ap, ◌∙◌, subst}
use Rattle.std.specs.Prelude.{Result, Ok, Err, IfOk, slice_get}
use Rattle.std.specs.FinMap as finite
use Rattle.std.proofs.lemmas.Option.{same_Some, none-some}
use Rattle.tup_path.specs.Order.{by_names}
use Rattle.tup_stamp.specs.declared.Stamp.{Stamp}
use Rattle.tup_rule.specs.declared.rule.Rule.{Rule}
use Rattle.tup_access.specs.Access.{access}
use Rattle.tup_access.specs.declared.verdict.Access.{Access}
use Rattle.tup_core.specs.declared.event.CoreEvent.{CoreEvent}
use Rattle.tup_core.specs.declared.event.CoreEvent.TheVariants.{Ask}
use Rattle.tup_core.specs.declared.fault.CoreFault.{CoreFault}
use Rattle.tup_core.specs.declared.machine.Core.{Core}
use Rattle.tup_core.specs.declared.plan.Plan.{Plan}
use Rattle.tup_core.specs.declared.running.Running.{Running}
use Rattle.tup_core.specs.Machine.{state_of, Answers, IsSeenFor}
use Rattle.tup_core.proofs.SeenLaws.{first_seen}
use Rattle.tup_core_rows.specs.declared.machine.Machine.{Machine}
use Rattle.tup_core_rows.specs.Machine.{IsOfPlan, IsToldTo, IsToldOf, stamp_told}

-- a core that was told an event is still one of the plan, and goes by the same files
pub stays : {T : Type 0} (machine : Machine) (new : Core) (event : CoreEvent) (result : Result T CoreFault) → IsOfPlan machine → Answers machine.plan machine.core event result new → IsOfPlan (record machine { core = new })
stays machine new event result was answers = record { core = answers.core; files = (λ i. (answers.first i).value) ∙ was.files }

-- what a core allows is what a command that runs is told
pub some_told : {E : Type 0} (plan : Plan) (running : Running) (text : List ℕ) (result : Result Access E) (given : Access)
    → IfOk result (λ found. (rule : Rule) → slice_get plan.rules running.rule ≡ Some rule → found ≡ access plan.rules rule (length running.asks) text) → result ≡ Ok given → IsToldTo plan running text (Some given)
some_told plan running text result given tells is rule placed =
    ap Some (subst (λ r. IfOk r (λ found. (rule : Rule) → slice_get plan.rules running.rule ≡ Some rule → found ≡ access plan.rules rule (length running.asks) text)) is tells rule placed)

module _ (machine : Machine) (seat : ℕ) (text : List ℕ) where
  -- the seat runs this
  told_here : (running : Running) (given : Option Access) → (state_of machine.core).seats seat ≡ Some running → IsToldTo machine.plan running text given → IsToldOf machine seat text given
  told_here running given here tells other rule runs =
      let same : running ≡ other = same_Some running other (sym here ∙ runs.here) in
      tells rule (ap (λ (r : Running). slice_get machine.plan.rules r.rule) same ∙ runs.placed) ∙ ap (λ (r : Running). Some (access machine.plan.rules rule (length r.asks) text)) same

  pub all_told : {E : Type 0} (running : Running) (result : Result (Option Access) E) → (state_of machine.core).seats seat ≡ Some running → IfOk result (IsToldTo machine.plan running text) → IfOk result (IsToldOf machine seat text)
  all_told running (Ok given) here tells = told_here running given here tells
  all_told running (Err fault) here tells = tt

  -- it runs nothing
  pub none_told : (state_of machine.core).seats seat ≡ None → IsToldOf machine seat text None
  none_told none other rule runs = absurd (none-some other (sym none ∙ runs.here))

  -- what was found at the path that may be asked for
  pub seen_of : (given : Option Access) (seen answer : Option Stamp) → machine.core.files.first.value ≡ machine.files → IsToldOf machine seat text given → seen ≡ stamp_told machine.files given
      → IsSeenFor machine.plan machine.core (Ask seat text answer) seen
  seen_of given seen answer files told is running rule path runs granted foreign =
      first_seen machine.core.files path seen
      (is ∙ ap (stamp_told machine.files) (told running rule runs ∙ ap Some granted) ∙ ap (λ (m : finite.FinMap by_names Stamp). finite.get m path) (sym files))
