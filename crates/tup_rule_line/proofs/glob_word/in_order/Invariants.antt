use Rattle.std.proofs.Common.{◌≡◌, Some}
use Rattle.tup_rule_line.specs.Glob.{in_order, wanted}
use Rattle.tup_rule_line.proofs.glob_word.in_order.Given as goal

abbrev pub invariant-loop-name : goal.invariant-loop-name
invariant-loop-name l = l.names.keys ≡ in_order (wanted (Some l.glob) l.yielded)
