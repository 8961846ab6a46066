use Rattle.std.proofs.Common.{◌≡◌, All, String, Global, string_bytes}
use Rattle.std.specs.List.{Any}
use Rattle.tup_disk.specs.Jobs.{IsOneOf}
use Rattle.tup_disk.specs.declared.syncing.Job.{Job}
use Rattle.tup_disk.proofs.syncing.jobs_of.Given as goal

abbrev pub invariant-loop-place : goal.invariant-loop-place
invariant-loop-place l = All (IsOneOf l.places) l.jobs.items × ((job : Job) → Any (λ (place : String Global). string_bytes place ≡ string_bytes job.place) l.place-iterator → IsOneOf l.places job)
