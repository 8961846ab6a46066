use Rattle.std.proofs.Common.{◌≡◌, ◌++◌, map, drop}
use Rattle.tup_rule_diff.specs.Edits.{read_so}
use Rattle.tup_rule_diff.proofs.putting.push_fresh.Given as goal

abbrev pub invariant-loop-dir : goal.invariant-loop-dir
invariant-loop-dir l = l.edits ++ map read_so (drop l.dir-index l.fresh) ≡ l.fn.edits ++ map read_so l.fresh
