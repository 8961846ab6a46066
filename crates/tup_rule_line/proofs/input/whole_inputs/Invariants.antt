use Rattle.std.proofs.Common.{◌≡◌, map, None}
use Rattle.tup_path.specs.Name.{Names}
use Rattle.tup_rule_line.specs.Found.{input}
use Rattle.tup_rule_line.proofs.input.whole_inputs.Given as goal

abbrev pub invariant-loop-path : goal.invariant-loop-path
invariant-loop-path l = l.inputs ≡ map (λ (path : Names). input path None) l.yielded
