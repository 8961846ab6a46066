use Rattle.std.proofs.Common.{◌≡◌, ◌++◌, drop}
use Rattle.tup_proc.specs.Log.{spelling}
use Rattle.tup_proc.proofs.write.write_log.Given as goal

abbrev pub invariant-loop-line : goal.invariant-loop-line
invariant-loop-line l = l.bytes.items ++ spelling (drop l.line-index l.lines) ≡ spelling l.lines
