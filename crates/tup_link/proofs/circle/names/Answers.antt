use Rattle.std.proofs.Common.{List, ◌++◌, ◌∷◌, [], get_or, ap, sym, ◌∙◌}
use Rattle.tup_rule.specs.declared.rule.RuleName.{RuleName}
use Rattle.tup_link.specs.Circle.{names_at}
use Rattle.tup_link.proofs.Circles.{names_more}
use Rattle.tup_link.proofs.circle.names.Goals as goal

pub loop-at-preserved : goal.loop-at-preserved
loop-at-preserved c =
    let places = c.args.places.now in
    let i = c.loop-at.at-index in
    c.in_ok-add_name.ensures
    ∙ ap (λ (l : List RuleName). l ++ names_at c.args.rules.now (get_or places i 0 ∷ [])) c.loop-at.invariant
    ∙ sym (names_more c.args.rules.now places i c.loop-at-test.true)
