use Rattle.std.proofs.lemmas.Result.{err_from_is_err_and}
use Rattle.tup_lex.specs.Blank.{trim}
use Rattle.tup_rule_line.specs.MacroLine.{with_body}
use Rattle.tup_query.proofs.Went.{went_then, went_err, went_given, went_along}
use Rattle.tup_rule_line.proofs.Rules.{behind_body, defined_by}
use Rattle.tup_rule_line.proofs.macro_line.defined.Goals as goal

pub returns-in_err-body : goal.returns-in_err-body
returns-in_err-body g c =
    let a = c.args in
    let p = err_from_is_err_and c.from_residual.result c.from_residual.ensures.1 in
    let failed = rw c.trimmed-name.ensures at c.in_err-body.ensures in
    rw (p.1, p.2) (went_along _ _ (defined_by a.at.now a.state a.left.now a.right.now) (went_err (behind_body a.at.now a.state (trim a.left.now)) failed))

pub returns : goal.returns
returns g c =
    let a = c.args in
    let done = rw c.trimmed-name.ensures at c.in_ok-body.ensures in
    let kept = rw c.trimmed-name.ensures at c.with_body.ensures in
    went_along _ _ (defined_by a.at.now a.state a.left.now a.right.now)
    (went_then (behind_body a.at.now a.state (trim a.left.now)) done
    (went_given _ _ (with_body a.at.now a.state (trim a.left.now) c.in_ok-body.body) c.with_body.result done.stopped kept))
