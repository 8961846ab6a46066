use Rattle.std.proofs.Common.{Ok, inr}
use Rattle.tup_graph.proofs.Copied.{same_rule}
use Rattle.tup_rule_diff.specs.Edits.{rule_more}
use Rattle.tup_rule_diff.proofs.putting.more.Goals as goal

pub returns : goal.returns
returns c =
    let is = c.in_ok-clone.ensures.cases in
    let same = same_rule c.args.rule.now c.in_ok-clone.field-0 is.0 is.1.0 is.1.1.0 is.1.1.1.0 is.1.1.1.1.0.0 is.1.1.1.1.1.0.0 is.1.1.1.1.1.1.0 in
    inr (λ i. Ok (rule_more (c.in_ok-number_of.ensures.number i) c.args.place (same i)))
