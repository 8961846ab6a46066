use Rattle.std.proofs.Common.{◌≡◌, length}
use Rattle.tup_access.specs.Inputs.{AreInputsOfAll}
use Rattle.tup_core.proofs.start.inputs_of_all.Given as goal

abbrev pub invariant-loop-at : goal.invariant-loop-at
invariant-loop-at l = record {
  each : AreInputsOfAll l.rules l.all.items;
  long : length l.all.items ≡ l.at;
}
