use Rattle.std.proofs.lemmas.Result.{err_from_is_err_and}
use Rattle.tup_query.proofs.Went.{went_then, went_err, went_along}
use Rattle.tup_rule_line.proofs.Jobs.{behind_plain, outputs_by}
use Rattle.tup_rule_line.proofs.command.with_outputs.Goals as goal

pub returns-in_err-plain : goal.returns-in_err-plain
returns-in_err-plain g c =
    let a = c.args in
    let p = err_from_is_err_and c.from_residual.result c.from_residual.ensures.1 in
    let failed = rw (c.as_slice-named.ensures, c.new-none.ensures) at c.in_err-plain.ensures in
    rw (p.1, p.2)
    (went_along _ _ (outputs_by a.at.now a.words.now a.group.now a.drafts.now a.parts) (went_err (behind_plain a.at.now a.words.now a.group.now a.drafts.now a.parts) failed))

pub returns : goal.returns
returns g c =
    let a = c.args in
    let done = rw (c.as_slice-named.ensures, c.new-none.ensures) at c.in_ok-plain.ensures in
    let more = rw (c.in_extra-parts.ensures, c.into_paths.ensures) at c.with_extra.ensures in
    went_along _ _ (outputs_by a.at.now a.words.now a.group.now a.drafts.now a.parts) (went_then (behind_plain a.at.now a.words.now a.group.now a.drafts.now a.parts) done more)
