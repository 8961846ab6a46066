use Rattle.std.proofs.lemmas.Result.{err_from_is_err_and}
use Rattle.tup_rule_line.specs.Words.{words_of}
use Rattle.tup_query.proofs.Went.{went_then, went_err, went_given, went_along}
use Rattle.tup_rule_line.proofs.Rules.{behind_line, words_in_by}
use Rattle.tup_rule_line.proofs.rule_line.words_in.Goals as goal

pub returns-in_err-text : goal.returns-in_err-text
returns-in_err-text g c =
    let a = c.args in
    let p = err_from_is_err_and c.from_residual.result c.from_residual.ensures.1 in
    rw (p.1, p.2) (went_along _ _ (words_in_by a.at.now a.state.now a.line.now) (went_err (behind_line a.at.now a.state.now) c.in_err-text.ensures.went))

pub returns : goal.returns
returns g c =
    let a = c.args in
    let done = c.in_ok-text.ensures.went in
    went_along _ _ (words_in_by a.at.now a.state.now a.line.now)
    (went_then (behind_line a.at.now a.state.now) done
    (went_given _ _ (words_of a.at.now a.state.now.macros c.in_ok-text.text) c.words_of.result done.stopped c.words_of.ensures))
