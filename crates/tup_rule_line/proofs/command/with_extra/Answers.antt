use Rattle.std.proofs.lemmas.Result.{err_from_is_err_and}
use Rattle.tup_rule_line.specs.Job.{in_command, with_text}
use Rattle.tup_query.proofs.Went.{went_then, went_err, went_given, went_nowhere, went_along}
use Rattle.tup_rule_line.proofs.Jobs.{behind_all, extra_by}
use Rattle.tup_rule_line.proofs.command.with_extra.Goals as goal

pub returns-in_err-plain : goal.returns-in_err-plain
returns-in_err-plain g c =
    let p = err_from_is_err_and c.from_residual.result c.from_residual.ensures.1 in
    rw (p.1, p.2) (went_nowhere _ _ _ c.requires)

pub returns-in_err-all : goal.returns-in_err-all
returns-in_err-all g c =
    let a = c.args in
    let p = err_from_is_err_and c.from_residual-in_err-all.result c.from_residual-in_err-all.ensures.1 in
    let failed = rw (c.as_slice-named.ensures, c.in_ok-plain.ensures) at c.in_err-all.ensures in
    rw (p.1, p.2)
    (went_along _ _ (extra_by a.at.now a.words.now a.group.now a.drafts.now a.parts) (went_err (behind_all a.at.now a.words.now a.group.now a.parts) failed))

pub returns : goal.returns
returns g c =
    let a = c.args in
    let done = rw (c.as_slice-named.ensures, c.in_ok-plain.ensures) at c.in_ok-all.ensures in
    let text = rw (c.in_command.ensures, c.into_paths.ensures) at c.with_text.ensures in
    went_along _ _ (extra_by a.at.now a.words.now a.group.now a.drafts.now a.parts)
    (went_then (behind_all a.at.now a.words.now a.group.now a.parts) done
    (went_given _ _ (with_text a.at.now a.words.now a.group.now (in_command a.parts) c.in_ok-all.all) c.with_text.result done.stopped text))
