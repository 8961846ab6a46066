use Rattle.tup_core_rows.specs.Machine.{IsOfPlan}
use Rattle.tup_core_rows.proofs.drive.run.Given as goal

abbrev pub invariant-loop : goal.invariant-loop
invariant-loop l = IsOfPlan l.machine
