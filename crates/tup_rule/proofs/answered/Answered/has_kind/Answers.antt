use Rattle.std.proofs.Common.{subst}
use Rattle.tup_rule.specs.Question.{HasKindOf}
use Rattle.tup_rule.specs.declared.question.Noted.{Noted}
use Rattle.tup_rule.specs.declared.question.Question.{Question}
use Rattle.tup_rule.proofs.answered.Answered.has_kind.Goals as goal

pub returns : goal.returns
returns c = subst (λ (one : Question × Noted). HasKindOf one.0 one.1) c.self.view_is c.self.invariant
