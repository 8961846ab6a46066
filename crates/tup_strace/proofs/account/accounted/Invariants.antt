use Rattle.std.proofs.Common.{◌≡◌, drop}
use Rattle.std.specs.List.{fold}
use Rattle.tup_strace.specs.Account.{with_step, nothing}
use Rattle.tup_strace.proofs.account.accounted.Given as goal

abbrev pub invariant-loop-step : goal.invariant-loop-step
invariant-loop-step l = fold with_step l.account (drop l.step-index l.steps) ≡ fold with_step nothing l.steps
