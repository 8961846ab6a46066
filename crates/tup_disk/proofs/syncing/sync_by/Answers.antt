use Rattle.std.proofs.Common.{◌≡◌, List, All, Err, IfErr, length, drop, subst, sym, arith}
use Rattle.std.specs.List.{Any}
use Rattle.tup_disk.specs.Jobs.{IsOneOf}
use Rattle.tup_disk.specs.declared.syncing.Job.{Job}
use Rattle.tup_disk.proofs.Jobs.{front, told_of}
use Rattle.tup_disk.proofs.syncing.sync_by.Goals as goal

pub returns : goal.returns
returns g c =
    let old = c.in_ok-jobs.jobs in
    let new = c.sync_all.new.jobs in
    let count : length new ≡ old.len = grind arith in
    record {
      cause = told_of c.args.places.now c.as_mut_slice.result.now new c.first_refused.result c.sync_all.auto.jobs
          (subst (All (IsOneOf c.args.places.now)) (sym c.as_mut_slice.ensures.value) c.in_ok-jobs.ensures) c.sync_all.ensures
          (subst (λ (jobs : List Job). IfErr c.first_refused.result (λ refused. Any (λ (job : Job). job.done ≡ Err refused) jobs)) (front old.len new (drop (length new) old.items) count) c.first_refused.ensures);
    }
