use Rattle.std.proofs.Common.{◌≡◌, ◌++◌}
use Rattle.tup_rule_line.proofs.found.add_groups.Given as goal

abbrev pub invariant-loop-group : goal.invariant-loop-group
invariant-loop-group l = l.groups ≡ l.fn.groups ++ l.yielded
