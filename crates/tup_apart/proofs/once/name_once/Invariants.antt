use Rattle.std.specs.List.{IsDistinct}
use Rattle.tup_path.specs.Order.{same_path}
use Rattle.tup_apart.proofs.Each.{EachUpTo}
use Rattle.tup_apart.proofs.once.name_once.Given as goal

abbrev pub invariant-loop-rule : goal.invariant-loop-rule
invariant-loop-rule l = EachUpTo (λ at rule. IsDistinct same_path rule.outputs) l.rules l.rule-index
