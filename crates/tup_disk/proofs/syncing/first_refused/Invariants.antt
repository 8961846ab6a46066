use Rattle.std.proofs.Common.{◌≡◌, Err}
use Rattle.std.specs.List.{Any}
use Rattle.std.specs.Vec.Iter.{into_iter_items}
use Rattle.tup_disk.specs.declared.failure.Refused.{Refused}
use Rattle.tup_disk.specs.declared.syncing.Job.{Job}
use Rattle.tup_disk.proofs.syncing.first_refused.Given as goal

abbrev pub invariant-loop-job : goal.invariant-loop-job
invariant-loop-job l = (refused : Refused) → Any (λ (job : Job). job.done ≡ Err refused) (into_iter_items l.job-iterator) → Any (λ (job : Job). job.done ≡ Err refused) l.fn.jobs.items
