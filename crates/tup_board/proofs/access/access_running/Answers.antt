use Rattle.std.proofs.lemmas.Result.{IfOk-weaker}
use Rattle.tup_board.proofs.Granting.{is_that_rule, granted, refused}
use Rattle.tup_board.proofs.access.access_running.Goals as goal

pub returns-in-Yes : goal.returns-in-Yes
returns-in-Yes c =
    let rules = c.args.plan.now.rules in
    let running = c.args.running.now in
    let one = c.index-as_slice-running.result in
    IfOk-weaker c.access_to.result _ _
    (λ given told rule here. granted rules one rule _ c.args.text.now c.in_ok-path.field-0 (is_that_rule rules c.as_slice.result.now running.rule one rule c.as_slice.ensures c.requires.rule c.index-as_slice-running.is here) c.in_ok-path.ensures
    c.args.graph.now.rules c.in-Yes.path given c.requires.rules c.in-Yes.is told) c.access_to.ensures

pub returns-in-No : goal.returns-in-No
returns-in-No c = λ rule here.
    let rules = c.args.plan.now.rules in
    let running = c.args.running.now in
    let one = c.index-as_slice-running.result in
    refused rules one rule _ c.args.text.now c.in_ok-path.field-0 (is_that_rule rules c.as_slice.result.now running.rule one rule c.as_slice.ensures c.requires.rule c.index-as_slice-running.is here) c.in_ok-path.ensures
    c.in-No.verdict c.in-No.is
