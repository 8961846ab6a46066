use Rattle.std.proofs.Common.{◌≡◌, take}
use Rattle.tup_rule_line.specs.Found.{paths_of}
use Rattle.tup_rule_line.proofs.rule_line.paths_of.Given as goal

abbrev pub invariant-loop-input : goal.invariant-loop-input
invariant-loop-input l = l.paths ≡ paths_of (take l.input-index l.inputs)
