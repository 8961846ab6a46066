use Rattle.std.proofs.Common.{◌≡◌, ap, subst}
use Rattle.std.specs.Bool.{Decides}
use Rattle.tup_rule.specs.declared.question.Noted.{Noted}
use Rattle.tup_rule.specs.declared.question.Noted.TheVariants as noted
use Rattle.tup_refresh.proofs.Same.{noted_tells}
use Rattle.tup_refresh.proofs.standing.has_stamp.Goals as goal

pub returns : goal.returns
returns c =
    subst (λ (given : Noted). Decides c.eq.result (given ≡ c.args.noted.now)) (ap (λ s. noted.Content s) c.source.ensures) (noted_tells (noted.Content c.source.result) c.args.noted.now c.eq.result c.eq.ensures)
