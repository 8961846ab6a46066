use Rattle.std.proofs.Common.{◌≡◌, false, subst}
use Rattle.std.specs.Option.{option_copied}
use Rattle.tup_graph.specs.Graph.{GraphState, is_owned}
use Rattle.tup_graph.proofs.Owning.{apart}
use Rattle.tup_graph.proofs.owners.Owners.is_between.Goals as goal

pub returns : goal.returns
returns c = λ ahead.
    let inside = c.self.inside in
    let path = c.args.path.now in
    subst (λ (g : GraphState). is_owned g path ≡ false) c.self.view_is
    (apart inside.nodes.now (option_copied inside.before) (option_copied inside.next) inside.left c.self.invariant path (c.is_behind.ensures c.if-not-is_behind.false) (c.is_ahead.ensures ahead))
