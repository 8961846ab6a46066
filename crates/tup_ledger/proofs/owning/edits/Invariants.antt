use Rattle.std.proofs.Common.{◌≡◌, map, take}
use Rattle.tup_ledger.specs.Owned.{owning as owning_of}
use Rattle.tup_ledger.proofs.owning.edits.Given as goal

abbrev pub invariant-loop-path : goal.invariant-loop-path
invariant-loop-path l = l.edits ≡ map (owning_of l.nodes) (take l.path-index l.paths)
