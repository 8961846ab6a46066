use Rattle.std.proofs.Common.{◌≤◌, ◌+◌, ◌-◌, vec_len}
use Rattle.std.specs.Prelude.{vec_capacity}
use Rattle.tup_tell.proofs.Parting.{IsTelling}
use Rattle.tup_tell.proofs.telling.tell_each.Given as goal

abbrev pub invariant-loop-at : goal.invariant-loop-at
invariant-loop-at g l = record {
  telling : IsTelling g.T.Reporter.told g.T.Reporter.faults l.events l.fn.reporters.items l.reporters.items l.failed.items l.at;
  room : vec_len l.failed + (vec_len l.reporters - l.at) ≤ vec_capacity l.failed;
}

abbrev pub decreases-loop-at : goal.decreases-loop-at
decreases-loop-at g l = vec_len l.reporters - l.at
