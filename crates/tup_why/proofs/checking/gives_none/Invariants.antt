use Rattle.std.proofs.Common.{ℕ, take}
use Rattle.tup_rule.specs.Rule.{declares}
use Rattle.tup_why.specs.Cause.{GivesReason}
use Rattle.tup_why.proofs.Finding.{EachIn}
use Rattle.tup_why.proofs.checking.gives_none.Given as goal

abbrev pub invariant-loop-number : goal.invariant-loop-number
invariant-loop-number l = EachIn (λ (number : ℕ). GivesReason l.nodes l.plan.rules (declares l.rule l.path) l.path number → ⊥) (take l.number-index l.plan.reach)
