use Rattle.std.proofs.Common.{take}
use Rattle.tup_scan_diff.specs.Present.{graph_of}
use Rattle.tup_scan_diff.specs.Touched.{WroteOther}
use Rattle.tup_scan_diff.proofs.present.Present.wrote_other.Given as goal

abbrev pub invariant-loop-path : goal.invariant-loop-path
invariant-loop-path l = WroteOther (graph_of l.self) (take l.path-index l.writes) → ⊥
