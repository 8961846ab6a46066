use Rattle.std.proofs.Common.{◌≡◌, Result, Err, IfErr, subst, sym, arith}
use Rattle.std.specs.List.{Any}
use Rattle.std.specs.Vec.Iter.{into_iter_items}
use Rattle.tup_disk.specs.declared.failure.Refused.{Refused}
use Rattle.tup_disk.specs.declared.syncing.Job.{Job}
use Rattle.tup_disk.proofs.Turns.{this_turn, later_turn}
use Rattle.tup_disk.proofs.syncing.first_refused.Goals as goal

pub loop-job-init : goal.loop-job-init
loop-job-init c = λ refused any.
    subst (Any (λ (job : Job). job.done ≡ Err refused)) c.into_iter-job-iterator.ensures.into_iter_gives.0 any

pub returns-in_err-job : goal.returns-in_err-job
returns-in_err-job c =
    let refused = c.in_err-job.field-0.0 in
    let is : c.from_residual.result ≡ Err refused = grind arith in
    let said : c.in-Some.job.done ≡ Err refused = grind arith in
    subst (λ (r : Result (Unit {0}) Refused). IfErr r (λ refused. Any (λ (job : Job). job.done ≡ Err refused) c.args.jobs.items)) (sym is)
    (this_turn (λ (job : Job). job.done ≡ Err refused) c.in-Some.job (into_iter_items c.loop-job.job-iterator) (into_iter_items c.next.new.self) c.args.jobs.items
    c.in-Some.ensures.steps.0 (c.loop-job.invariant refused) said)

pub loop-job-preserved : goal.loop-job-preserved
loop-job-preserved c = λ refused.
    later_turn (λ (job : Job). job.done ≡ Err refused) c.in-Some.job (into_iter_items c.loop-job.job-iterator) (into_iter_items c.next.new.self) c.args.jobs.items
    c.in-Some.ensures.steps.0 (c.loop-job.invariant refused)
