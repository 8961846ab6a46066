use Rattle.std.proofs.lemmas.Result.{err_from_is_err_and}
use Rattle.tup_query.proofs.Went.{went_then, went_err, went_along}
use Rattle.tup_rule_line.proofs.Rules.{behind_words, line_by}
use Rattle.tup_rule_line.proofs.rule_line.ruled.Goals as goal

pub returns-in_err-words : goal.returns-in_err-words
returns-in_err-words g c =
    let a = c.args in
    let p = err_from_is_err_and c.from_residual.result c.from_residual.ensures.1 in
    rw (p.1, p.2) (went_along _ _ (line_by a.at.now a.state a.line.now) (went_err (behind_words a.at.now a.state) c.in_err-words.ensures))

pub returns : goal.returns
returns g c =
    let a = c.args in
    went_along _ _ (line_by a.at.now a.state a.line.now) (went_then (behind_words a.at.now a.state) c.in_ok-words.ensures c.with_words.ensures)
