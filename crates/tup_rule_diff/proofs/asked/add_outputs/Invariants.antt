use Rattle.std.proofs.Common.{take}
use Rattle.std.specs.Prelude.{Contains}
use Rattle.tup_path.specs.Order.{by_names}
use Rattle.tup_closure.specs.Grows.{Grows}
use Rattle.tup_scan_diff.specs.Sets.{Has}
use Rattle.tup_rule_diff.proofs.asked.add_outputs.Given as goal

abbrev pub invariant-loop-path : goal.invariant-loop-path
invariant-loop-path l = Grows (Contains (take l.path-index l.paths)) (Has by_names l.fn.outputs) (Has by_names l.outputs)
