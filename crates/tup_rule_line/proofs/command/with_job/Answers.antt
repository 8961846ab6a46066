use Rattle.std.proofs.lemmas.Result.{err_from_is_err_and}
use Rattle.tup_query.proofs.Went.{went_then, went_err, went_gives, went_memory, went_along}
use Rattle.tup_rule_line.proofs.Jobs.{behind_draft, job_by}
use Rattle.tup_rule_line.proofs.command.with_job.Goals as goal

pub returns-in_err-draft : goal.returns-in_err-draft
returns-in_err-draft g c =
    let a = c.args in
    let p = err_from_is_err_and c.from_residual.result c.from_residual.ensures.1 in
    rw (p.1, p.2) (went_along _ _ (job_by a.at.now a.words.now a.sources.now a.state a.job.now) (went_err (behind_draft a.state a.words.now.bin) c.in_err-draft.ensures))

pub returns-in_err-with_draft : goal.returns-in_err-with_draft
returns-in_err-with_draft g c =
    let p = err_from_is_err_and c.from_residual-in_err-with_draft.result c.from_residual-in_err-with_draft.ensures.1 in
    rw (p.1, p.2) (went_memory _ c.in_ok-draft.ensures)

pub returns : goal.returns
returns g c =
    let a = c.args in
    let done = c.in_ok-draft.ensures in
    rw c.in_ok-with_draft.ensures
    (went_along _ _ (job_by a.at.now a.words.now a.sources.now a.state a.job.now) (went_then (behind_draft a.state a.words.now.bin) done (went_gives _ _ _ done.stopped)))
