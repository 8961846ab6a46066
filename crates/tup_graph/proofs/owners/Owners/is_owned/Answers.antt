use Rattle.std.proofs.Common.{is_some, sym, ap, ◌∙◌}
use Rattle.tup_graph.specs.Graph.{GraphState, is_owned}
use Rattle.tup_graph.proofs.owners.Owners.is_owned.Goals as goal

pub returns-then-is_next : goal.returns-then-is_next
returns-then-is_next c = sym (c.is_next.ensures c.if-is_next.true)

pub returns-then-is_between : goal.returns-then-is_between
returns-then-is_between c = sym (c.is_between.ensures c.if-is_between.true)

pub returns : goal.returns
returns c = c.is_some.ensures ∙ ap is_some c.owner.ensures ∙ ap (λ (g : GraphState). is_owned g c.args.path.now) c.self.view_is
