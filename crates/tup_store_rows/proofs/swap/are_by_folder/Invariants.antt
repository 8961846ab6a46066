use Rattle.std.proofs.Common.{◌≤◌}
use Rattle.tup_store_rows.proofs.Once.{AreSoBelow}
use Rattle.tup_store_rows.proofs.swap.are_by_folder.Given as goal

abbrev pub invariant-loop-at : goal.invariant-loop-at
invariant-loop-at l = (1 ≤ l.at) × AreSoBelow l.rules l.at
