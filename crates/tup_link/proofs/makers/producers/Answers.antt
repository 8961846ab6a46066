use Rattle.std.proofs.Common.{List, ℕ, ◌∷◌, ◌++◌, [], ap, sym, ◌∙◌, map, take}
use Rattle.std.proofs.lemmas.List.{map_more}
use Rattle.tup_rule.specs.declared.rule.Rule.{Rule}
use Rattle.tup_rule.specs.Makers.{producers}
use Rattle.tup_rule.proofs.Making.{producers_in-is}
use Rattle.tup_link.proofs.makers.producers.Goals as goal

pub loop-rule-preserved : goal.loop-rule-preserved
loop-rule-preserved c =
    let rules = c.args.rules.now in
    let rule = c.rule-item.result in
    let front = map (producers rules) (take c.loop-rule.rule-index rules) in
    c.in_ok-push.ensures.items
    ∙ ap (λ (l : List (List ℕ)). l ++ c.from_vec.result ∷ []) c.loop-rule.invariant
    ∙ ap (λ (found : List ℕ). front ++ found ∷ []) (c.from_vec.ensures ∙ c.in_ok-producers_of.ensures ∙ producers_in-is rules c.in_ok-makers.makers rule c.in_ok-makers.ensures)
    ∙ ap (λ (r : Rule). front ++ producers rules r ∷ []) c.rule-item.is
    ∙ sym (map_more (producers rules) rules c.loop-rule.rule-index rule c.loop-rule-test.true)
