use Rattle.std.proofs.Common.{◌+◌, ◌∷◌, [], ℕ, Some, length, ap, sym, subst, ◌∙◌, length-append}
use Rattle.std.proofs.lemmas.Option.{slice_get-get_or}
use Rattle.tup_access.specs.Inputs.{AreInputsOfAll}
use Rattle.tup_core.proofs.Inputs.{inputs_more, no_inputs}
use Rattle.tup_core.proofs.start.inputs_of_all.Goals as goal

pub loop-at-init : goal.loop-at-init
loop-at-init c = record { each = no_inputs c.args.rules.now c.in_ok-all.all.items c.in_ok-all.ensures.items; long = ap length c.in_ok-all.ensures.items }

pub loop-at-preserved : goal.loop-at-preserved
loop-at-preserved c =
    let before = c.loop-at.invariant in
    let rules = c.args.rules.now in
    let rule = c.index-rules-at.result in
    let inputs = c.in_ok-inputs_if.field-0 in
    let here = slice_get-get_or rules c.loop-at.at rule c.loop-at-test.true ∙ ap Some (sym c.index-rules-at.is) in
    record {
      each = subst (AreInputsOfAll rules) (sym c.in_ok-push.ensures.items) (inputs_more rules c.loop-at.all.items c.loop-at.at rule inputs before.long before.each here c.in_ok-inputs_if.ensures);
      long = ap length c.in_ok-push.ensures.items ∙ length-append c.loop-at.all.items (inputs ∷ []) ∙ ap (λ (n : ℕ). n + 1) before.long;
    }

pub returns : goal.returns
returns c = c.loop-at.invariant.each
