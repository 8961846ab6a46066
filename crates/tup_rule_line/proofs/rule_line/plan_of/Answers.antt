use Rattle.std.proofs.Common.{Result, Ok, Err, refl}
use Rattle.std.proofs.lemmas.Result.{err_from_is_err_and}
use Rattle.tup_query.specs.declared.fault.ReadEnd.{ReadEnd}
use Rattle.tup_rule_line.specs.declared.job.Plan.{Plan}
use Rattle.tup_rule_line.specs.RuleLine.{given_to, plan_with}
use Rattle.tup_query.proofs.Went.{gives_then, gives_err, gives_along}
use Rattle.tup_rule_line.proofs.Rules.{behind_group, plan_by}
use Rattle.tup_rule_line.proofs.rule_line.plan_of.Goals as goal

pub returns-in_err-group : goal.returns-in_err-group
returns-in_err-group c =
    let a = c.args in
    let p = err_from_is_err_and c.from_residual.result c.from_residual.ensures.1 in
    rw (p.1, p.2)
    (gives_along _ _ (Err c.in_err-group.field-0.0) (plan_by a.at.now a.words.now a.inputs a.order)
    (gives_err (given_to a.at.now a.words.now.group) (behind_group a.words.now a.inputs a.order) c.in_err-group.field-0.0 c.in_err-group.ensures))

pub returns : goal.returns
returns c =
    let a = c.args in
    let group = c.in_ok-group.group in
    let end : Result Plan ReadEnd = Ok (plan_with a.words.now a.inputs a.order group) in
    rw c.in_ok-plan_with.ensures
    (gives_along _ _ end (plan_by a.at.now a.words.now a.inputs a.order)
    (gives_then (given_to a.at.now a.words.now.group) (behind_group a.words.now a.inputs a.order) group end c.in_ok-group.ensures refl))
