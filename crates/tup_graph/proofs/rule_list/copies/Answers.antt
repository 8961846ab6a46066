use Rattle.std.proofs.Common.{◌∙◌, ◌∷◌, [], ◌++◌, take, ap, sym}
use Rattle.std.proofs.lemmas.List.{take_more}
use Rattle.tup_rule.specs.declared.rule.Rule.{Rule}
use Rattle.tup_graph.proofs.Copied.{same_rule}
use Rattle.tup_graph.proofs.rule_list.copies.Goals as goal

pub loop-rule-preserved : goal.loop-rule-preserved
loop-rule-preserved c =
    let rule = c.rule-item.result in
    let copy = c.in_ok-clone.field-0 in
    let is = c.in_ok-clone.ensures.cases in
    let same = same_rule rule copy is.0 is.1.0 is.1.1.0 is.1.1.1.0 is.1.1.1.1.0.0 is.1.1.1.1.1.0.0 is.1.1.1.1.1.1.0 in
    c.in_ok-push.ensures.ok ∙ (λ i. c.loop-rule.invariant i ++ same i ∷ []) ∙ ap (λ (r : Rule). take c.loop-rule.rule-index c.args.rules.now ++ r ∷ []) c.rule-item.is ∙ sym (take_more c.args.rules.now c.loop-rule.rule-index rule c.loop-rule-test.true)
