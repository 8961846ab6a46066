use Rattle.std.proofs.Common.{◌≡◌, ap, subst, ◌∙◌}
use Rattle.std.specs.Bool.{Decides}
use Rattle.tup_rule.specs.Question.{noted as kept_as}
use Rattle.tup_rule.specs.declared.question.Noted.{Noted}
use Rattle.tup_refresh.proofs.Same.{noted_tells}
use Rattle.tup_refresh.proofs.standing.is_told.Goals as goal

pub returns-clause-told : goal.returns-clause-told
returns-clause-told c =
    subst (λ (given : Noted). Decides c.eq.result (given ≡ c.args.noted.now)) (c.noted.ensures ∙ ap kept_as c.in_ok-told.ensures.told) (noted_tells c.noted.result c.args.noted.now c.eq.result c.eq.ensures)
