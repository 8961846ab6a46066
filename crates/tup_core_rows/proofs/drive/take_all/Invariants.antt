use Rattle.tup_core_rows.specs.Machine.{IsOfPlan}
use Rattle.tup_core_rows.proofs.drive.take_all.Given as goal

abbrev pub invariant-loop-event : goal.invariant-loop-event
invariant-loop-event l = IsOfPlan l.machine
