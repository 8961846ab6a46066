use Rattle.std.proofs.lemmas.Result.{err_from_is_err_and}
use Rattle.tup_rule_line.specs.RuleLine.{plan_of}
use Rattle.tup_query.proofs.Went.{went_then, went_err, went_given, went_along}
use Rattle.tup_rule_line.proofs.Rules.{behind_inputs, behind_order, planned_by}
use Rattle.tup_rule_line.proofs.rule_line.planned.Goals as goal

pub returns-in_err-inputs : goal.returns-in_err-inputs
returns-in_err-inputs g c =
    let a = c.args in
    let failed = rw c.as_slice.ensures at c.in_err-inputs.ensures in
    let p = err_from_is_err_and c.from_residual.result c.from_residual.ensures.1 in
    rw (p.1, p.2) (went_along _ _ (planned_by a.at.now a.state.now a.words.now) (went_err (behind_inputs a.at.now a.state.now a.words.now) failed))

pub returns-in_err-order : goal.returns-in_err-order
returns-in_err-order g c =
    let a = c.args in
    let done = rw c.as_slice.ensures at c.in_ok-inputs.ensures in
    let failed = rw c.as_slice-2.ensures at c.in_err-order.ensures in
    let p = err_from_is_err_and c.from_residual-in_err-order.result c.from_residual-in_err-order.ensures.1 in
    rw (p.1, p.2)
    (went_along _ _ (planned_by a.at.now a.state.now a.words.now)
    (went_then (behind_inputs a.at.now a.state.now a.words.now) done (went_err (behind_order a.at.now a.words.now c.in_ok-inputs.inputs) failed)))

pub returns : goal.returns
returns g c =
    let a = c.args in
    let done = rw c.as_slice.ensures at c.in_ok-inputs.ensures in
    let more = rw c.as_slice-2.ensures at c.in_ok-order.ensures in
    went_along _ _ (planned_by a.at.now a.state.now a.words.now)
    (went_then (behind_inputs a.at.now a.state.now a.words.now) done
    (went_then (behind_order a.at.now a.words.now c.in_ok-inputs.inputs) more
    (went_given _ _ (plan_of a.at.now a.words.now c.in_ok-inputs.inputs c.in_ok-order.order) c.plan_of.result more.stopped c.plan_of.ensures)))
