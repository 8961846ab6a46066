use Rattle.std.proofs.Common.{take}
use Rattle.tup_scan_diff.specs.Present.{graph_of}
use Rattle.tup_scan_diff.specs.Touched.{AsksOther}
use Rattle.tup_scan_diff.proofs.present.Present.asks_other.Given as goal

abbrev pub invariant-loop-path : goal.invariant-loop-path
invariant-loop-path l = AsksOther (graph_of l.self) l.rule (take l.path-index l.asks) → ⊥
