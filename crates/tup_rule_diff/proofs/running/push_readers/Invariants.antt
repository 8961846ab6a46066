use Rattle.std.proofs.Common.{take}
use Rattle.std.specs.Prelude.{Contains}
use Rattle.tup_closure.specs.Grows.{Grows}
use Rattle.tup_closure.specs.Readers.{HasAskedOneOf}
use Rattle.tup_rule_diff.proofs.running.push_readers.Given as goal

abbrev pub invariant-loop-path : goal.invariant-loop-path
invariant-loop-path l = Grows (HasAskedOneOf l.led (take l.path-index l.paths)) (Contains l.fn.found) (Contains l.found)
