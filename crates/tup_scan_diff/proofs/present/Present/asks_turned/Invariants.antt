use Rattle.std.proofs.Common.{take}
use Rattle.tup_scan_diff.specs.Turned.{AsksTurned}
use Rattle.tup_scan_diff.proofs.present.Present.asks_turned.Given as goal

abbrev pub invariant-loop-path : goal.invariant-loop-path
invariant-loop-path l = AsksTurned l.self l.rule (take l.path-index l.asks) → ⊥
