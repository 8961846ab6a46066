use Rattle.std.proofs.Common.{take}
use Rattle.tup_rule.specs.Makers.{SetsMaker}
use Rattle.tup_rule.proofs.by_path.set_maker.Given as goal

abbrev pub invariant-loop-output : goal.invariant-loop-output
invariant-loop-output l = SetsMaker (take l.output-index l.outputs) l.at l.fn.makers l.makers
