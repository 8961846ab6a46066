use Rattle.std.proofs.Common.{ℕ, ap, ◌∙◌, subst}
use Rattle.std.specs.Prelude.{◌↔◌, Contains}
use Rattle.tup_graph.specs.Graph.{GraphState}
use Rattle.tup_partial.specs.Plan.{IsToRun}
use Rattle.tup_apart.proofs.plan.planned_uncounted.Goals as goal

pub returns-in-Ok-clause-planned : goal.returns-in-Ok-clause-planned
returns-in-Ok-clause-planned g c = record {
  rules = c.in-Ok.ensures.rules ∙ ap (λ (nodes : GraphState). nodes.rules) c.indexed.ensures.value;
  reach = subst (λ (nodes : GraphState). (number : ℕ) → Contains c.in-Ok.plan.reach number ↔ IsToRun nodes number) c.indexed.ensures.value c.in-Ok.ensures.reach;
  range = c.in-Ok.ensures.range;
  near = c.in-Ok.ensures.near;
}
