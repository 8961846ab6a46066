use Rattle.std.proofs.Common.{ℕ, List, inr, subst, ◌∙◌}
use Rattle.std.proofs.lemmas.Option.{MatchOption-at_none, MatchOption-at_some}
use Rattle.tup_link.specs.Circle.{IsRound}
use Rattle.tup_link.specs.Graph.{Leads, HasNoCircle}
use Rattle.tup_link.specs.Walk.{IsTurned}
use Rattle.tup_link.proofs.Circles.{circle_of, within_graph, none_of_graph}
use Rattle.tup_link.proofs.circle.no_circle.Goals as goal

pub way_round-requires : goal.way_round-requires
way_round-requires c = within_graph c.args.rules.now c.deref.result.now (c.deref.ensures.value ∙ c.in_ok-graph.ensures)

pub returns-in-Some-clause-fault : goal.returns-in-Some-clause-fault
returns-in-Some-clause-fault c =
    let graph = c.deref.result.now in
    let round = MatchOption-at_some (HasNoCircle graph) (IsRound (Leads graph)) c.in-Some.round c.in-Some.is c.in_ok-round.ensures in
    let told = c.in_ok-circular-in-Some.ensures in
    inr (
      told.0,
      circle_of c.args.rules.now graph c.in-Some.round told.0 (c.deref.ensures.value ∙ c.in_ok-graph.ensures) round
          (subst (λ (l : List ℕ). IsTurned l told.0) c.as_slice.ensures told.1),
      told.2,
    )

pub returns-clause-none : goal.returns-clause-none
returns-clause-none c =
    let graph = c.deref.result.now in
    none_of_graph c.args.rules.now graph (c.deref.ensures.value ∙ c.in_ok-graph.ensures) (MatchOption-at_none (HasNoCircle graph) (IsRound (Leads graph)) c.in-None.is c.in_ok-round.ensures)
