use Rattle.std.proofs.Common.{◌≡◌, ◌∙◌, true, false, List, ap, sym, slice_index, slice_get, below_more, arith}
use Rattle.tup_rule.specs.declared.rule.Rule.{Rule}
use Rattle.tup_rule_diff.proofs.Looked.{first_at, none_at}
use Rattle.tup_rule_diff.proofs.before.number_before.Goals as goal

pub loop-number-preserved : goal.loop-number-preserved
loop-number-preserved c =
    below_more _ _ c.loop-number.invariant
    (λ at. let here : c.is_same.result ≡ true = c.is_same.ensures.1 (ap (λ (l : List Rule). slice_get l (slice_index c.of-number-items.result.now c.loop-number.number-index)) c.rules.ensures ∙ at) in
    let wrong : true ≡ false = sym here ∙ c.if-is_same.false in cc)

pub returns-then-is_same : goal.returns-then-is_same
returns-then-is_same c =
    first_at c.args.nodes.now c.args.rule.now c.of-number-items.result.now c.path_of.result.now c.path_of.ensures (c.of-number-items.ensures ∙ c.requires c.path_of.result.now) c.loop-number.number-index c.loop-number-test.true c.loop-number.invariant
    (ap (λ (l : List Rule). slice_get l (slice_index c.of-number-items.result.now c.loop-number.number-index)) (sym c.rules.ensures) ∙ c.is_same.ensures.0 c.if-is_same.true)

pub returns : goal.returns
returns c =
    let end = c.loop-number-test.false in
    none_at c.args.nodes.now c.args.rule.now c.of-number-items.result.now c.path_of.result.now c.path_of.ensures (c.of-number-items.ensures ∙ c.requires c.path_of.result.now) (λ k less. c.loop-number.invariant k (omega (arith, end, less)))
