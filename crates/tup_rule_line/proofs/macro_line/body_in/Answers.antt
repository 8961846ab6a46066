use Rattle.std.proofs.lemmas.Result.{err_from_is_err_and}
use Rattle.tup_rule_line.specs.MacroLine.{named_body}
use Rattle.tup_query.proofs.Went.{went_then, went_err, went_given, went_along}
use Rattle.tup_rule_line.proofs.Rules.{behind_text, body_by}
use Rattle.tup_rule_line.proofs.macro_line.body_in.Goals as goal

pub returns-in_err-text : goal.returns-in_err-text
returns-in_err-text g c =
    let a = c.args in
    let p = err_from_is_err_and c.from_residual.result c.from_residual.ensures.1 in
    rw (p.1, p.2) (went_along _ _ (body_by a.at.now a.variables.now a.name.now a.right.now) (went_err (behind_text a.at.now a.name.now) c.in_err-text.ensures.went))

pub returns : goal.returns
returns g c =
    let a = c.args in
    let done = c.in_ok-text.ensures.went in
    went_along _ _ (body_by a.at.now a.variables.now a.name.now a.right.now)
    (went_then (behind_text a.at.now a.name.now) done
    (went_given _ _ (named_body a.at.now a.name.now c.in_ok-text.text) c.named_body.result done.stopped c.named_body.ensures))
