use Rattle.std.proofs.lemmas.Result.{err_from_is_err_and}
use Rattle.tup_query.proofs.Went.{went_nowhere, went_along}
use Rattle.tup_rule_line.proofs.Jobs.{drafted_by}
use Rattle.tup_rule_line.proofs.command.drafted.Goals as goal

pub returns-in_err-parts : goal.returns-in_err-parts
returns-in_err-parts g c =
    let p = err_from_is_err_and c.from_residual.result c.from_residual.ensures.1 in
    rw (p.1, p.2) (went_nowhere _ _ _ c.requires)

pub returns : goal.returns
returns g c =
    let a = c.args in
    let done = rw c.in_ok-parts.ensures at c.with_outputs.ensures in
    went_along _ _ (drafted_by a.at.now a.words.now a.sources.now a.drafts.now a.job.now) done
