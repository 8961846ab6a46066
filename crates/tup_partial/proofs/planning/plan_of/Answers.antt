use Rattle.std.proofs.Common.{ℕ, ◌<◌, List, length, ap, sym, subst, ◌∙◌}
use Rattle.tup_graph.specs.Graph.{GraphState}
use Rattle.tup_rule.specs.declared.rule.Rule.{Rule}
use Rattle.tup_core.specs.Sound.{AreNamersOf, IsMadeBy}
use Rattle.tup_closure.proofs.Stepping.{at_most, if_err}
use Rattle.tup_partial.proofs.Reach.{in_range}
use Rattle.tup_partial.proofs.planning.plan_of.Goals as goal

pub returns-clause-rules : goal.returns-clause-rules
returns-clause-rules g c = c.in_ok-rules.ensures ∙ ap (λ (h : GraphState). h.rules) c.nodes.ensures

pub returns-clause-range : goal.returns-clause-range
returns-clause-range g c = λ at inside.
    subst (λ (rules : List Rule). at < length rules) (sym (c.in_ok-rules.ensures ∙ ap (λ (h : GraphState). h.rules) c.nodes.ensures))
    (in_range c.args.graph.now c.requires.runs c.requires.flags c.in_ok-reach.reach c.in_ok-reach.ensures.reach at inside)

pub returns-clause-near : goal.returns-clause-near
returns-clause-near g c =
    let near = c.in_ok-near.near in
    let reach = subst (λ (numbers : List ℕ). AreNamersOf c.args.graph.now.rules (IsMadeBy c.args.graph.now.rules numbers) near) c.as_slice.ensures c.in_ok-near.ensures.near in
    subst (λ (rules : List Rule). AreNamersOf rules (IsMadeBy rules c.in_ok-reach.reach) near) (sym (c.in_ok-rules.ensures ∙ ap (λ (h : GraphState). h.rules) c.nodes.ensures)) reach

-- the rules were reached, and then there was no memory for those that are near, or to share the rules
pub returns-in_err-near-clause-fewer : goal.returns-in_err-near-clause-fewer
returns-in_err-near-clause-fewer g c =
    if_err c.from_residual-in_err-near.result (at_most c.in_ok-reach.ensures.steps)

pub returns-in_err-rules-clause-fewer : goal.returns-in_err-rules-clause-fewer
returns-in_err-rules-clause-fewer g c =
    if_err c.from_residual-in_err-rules.result (at_most c.in_ok-reach.ensures.steps)
