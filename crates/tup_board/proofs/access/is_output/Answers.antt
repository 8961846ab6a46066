use Rattle.std.proofs.Common.{List, ℕ, inr, sym, ap, ◌∙◌, subst}
use Rattle.std.specs.Prelude.{Contains, slice_get}
use Rattle.tup_rule.specs.declared.rule.Rule.{Rule}
use Rattle.tup_graph.specs.Graph.{GraphState}
use Rattle.tup_board.proofs.access.is_output.Goals as goal

pub one_writes-requires : goal.one_writes-requires
one_writes-requires c = λ at rule here written.
    subst (λ (l : List ℕ). Contains l at) (sym c.deref.ensures.value)
    (c.in-Ok.ensures.namers at (rule, ap (λ (rules : List Rule). slice_get rules at) (sym (c.rules.ensures ∙ ap (λ (g : GraphState). g.rules) c.nodes.ensures)) ∙ here, inr written))
