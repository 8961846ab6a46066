use Rattle.std.proofs.lemmas.Result.{err_from_is_err_and}
use Rattle.tup_query.proofs.Went.{went_then, went_err, went_along}
use Rattle.tup_rule_line.proofs.Rules.{behind_plan, words_by}
use Rattle.tup_rule_line.proofs.rule_line.with_words.Goals as goal

pub returns-in_err-plan : goal.returns-in_err-plan
returns-in_err-plan g c =
    let a = c.args in
    let p = err_from_is_err_and c.from_residual.result c.from_residual.ensures.1 in
    rw (p.1, p.2) (went_along _ _ (words_by a.at.now a.state a.words.now) (went_err (behind_plan a.at.now a.state a.words.now) c.in_err-plan.ensures))

pub returns : goal.returns
returns g c =
    let a = c.args in
    let done = rw c.as_slice-jobs.ensures at c.with_jobs.ensures in
    went_along _ _ (words_by a.at.now a.state a.words.now) (went_then (behind_plan a.at.now a.state a.words.now) c.in_ok-plan.ensures done)
