use Rattle.std.proofs.Common.{ℕ, subst}
use Rattle.std.specs.Prelude.{◌↔◌, Contains, IfOk}
use Rattle.tup_graph.specs.Above.{HasAsked}
use Rattle.tup_stored_graph.specs.Held.{Held}
use Rattle.tup_stored_graph.proofs.graph.Graph.readers_of.Goals as goal

pub returns-clause-readers : goal.returns-clause-readers
returns-clause-readers c =
    subst (λ (held : Held). IfOk c.readers_of.result (λ numbers. (number : ℕ) → Contains numbers.items number ↔ HasAsked held.nodes number c.args.path.now)) c.self.view_is c.readers_of.ensures.readers
