use Rattle.std.proofs.lemmas.Result.{err_from_is_err_and}
use Rattle.tup_rule_line.specs.Input.{bare_text, from_text}
use Rattle.tup_query.proofs.Went.{went_ok, went_bad, went_along}
use Rattle.tup_rule_line.proofs.Inputs.{files_by}
use Rattle.tup_rule_line.proofs.input.from_files.Goals as goal

pub returns-in_err-text : goal.returns-in_err-text
returns-in_err-text g c =
    let a = c.args in
    let p = err_from_is_err_and c.from_residual.result c.from_residual.ensures.1 in
    rw (p.1, p.2)
    (went_along _ _ (files_by a.at.now a.drafts.now a.word.now)
    (went_bad _ _ (bare_text a.at.now a.word.now) (from_text a.at.now a.drafts.now) c.in_err-text.field-0.0 c.requires c.in_err-text.ensures))

pub returns : goal.returns
returns g c =
    let a = c.args in
    went_along _ _ (files_by a.at.now a.drafts.now a.word.now)
    (went_ok (bare_text a.at.now a.word.now) (from_text a.at.now a.drafts.now) c.in_ok-text.ensures c.from_text.ensures)
