use Rattle.std.proofs.Common.{take}
use Rattle.std.specs.Fmt.{HasWritten, IsPlainFormatter}
use Rattle.std.specs.List.{flat_map}
use Rattle.tup_top.specs.Lines.{rule_arrow}
use Rattle.tup_top.proofs.circle.RuleArrowsDisplay.fmt.Given as goal

abbrev pub invariant-loop-rule : goal.invariant-loop-rule
invariant-loop-rule g l = IsPlainFormatter l.fn.f → HasWritten g.W.Write.write_str_gives l.fn.f (flat_map rule_arrow (take l.rule-index l.fn.self.0.now)) l.f
