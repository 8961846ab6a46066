use Rattle.tup_core_rows.specs.Machine.{IsOfPlan}
use Rattle.tup_core_rows.proofs.run.first_refused.Given as goal

abbrev pub invariant-loop-number : goal.invariant-loop-number
invariant-loop-number l = IsOfPlan l.machine
