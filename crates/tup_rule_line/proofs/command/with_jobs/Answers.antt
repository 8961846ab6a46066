use Rattle.std.proofs.Common.{◌+◌, drop, arith}
use Rattle.std.proofs.lemmas.Result.{err_from_is_err_and}
use Rattle.tup_rule_line.specs.Job.{with_jobs}
use Rattle.tup_query.proofs.Went.{went_then, went_err, went_gives, went_along}
use Rattle.tup_rule_line.proofs.Jobs.{jobs_more, jobs_end}
use Rattle.tup_rule_line.proofs.command.with_jobs.Goals as goal

pub returns-in_err-reached : goal.returns-in_err-reached
returns-in_err-reached g c =
    let l = c.loop-job in
    let job = c.job-item.result in
    let a = c.args in
    let p = err_from_is_err_and c.from_residual.result c.from_residual.ensures.1 in
    rw (p.1, p.2)
    (l.invariant.so_far _ _
    (went_along _ _ (jobs_more a.at.now a.words.now a.sources.now l.reached a.jobs.now l.job-index job (omega arith) c.job-item.is)
    (went_err (λ next. with_jobs a.at.now a.words.now a.sources.now next (drop (l.job-index + 1) a.jobs.now)) c.in_err-reached.ensures)))

pub loop-job-preserved : goal.loop-job-preserved
loop-job-preserved g c =
    let l = c.loop-job in
    let job = c.job-item.result in
    let a = c.args in
    record {
      on = c.in_ok-reached.ensures.stopped;
      so_far = λ after end went. l.invariant.so_far after end
          (went_along _ _ (jobs_more a.at.now a.words.now a.sources.now l.reached a.jobs.now l.job-index job (omega arith) c.job-item.is)
          (went_then (λ next. with_jobs a.at.now a.words.now a.sources.now next (drop (l.job-index + 1) a.jobs.now)) c.in_ok-reached.ensures went));
    }

pub returns : goal.returns
returns g c =
    let l = c.loop-job in
    let a = c.args in
    l.invariant.so_far _ _ (went_along _ _ (jobs_end a.at.now a.words.now a.sources.now l.reached a.jobs.now l.job-index (omega arith)) (went_gives _ _ _ l.invariant.on))
