use Rattle.std.proofs.Common.{◌≡◌, fold}
use Rattle.tup_rule_line.specs.Found.{with_one}
use Rattle.tup_rule_line.proofs.gathered.Gathered.with_inputs.Given as goal

abbrev pub invariant-loop-input : goal.invariant-loop-input
invariant-loop-input l = l.gathered ≡ fold with_one l.fn.self l.yielded
