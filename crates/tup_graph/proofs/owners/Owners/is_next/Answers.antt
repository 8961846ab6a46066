use Rattle.std.proofs.Common.{◌≡◌, true, Some, sym, ap, subst, ◌∙◌}
use Rattle.std.specs.Option.{option_copied}
use Rattle.tup_path.proofs.Same.{same_path-decides}
use Rattle.tup_graph.specs.Graph.{GraphState, is_owned}
use Rattle.tup_graph.proofs.Owning.{there}
use Rattle.tup_graph.proofs.owners.Owners.is_next.Goals as goal

pub returns-in-Some : goal.returns-in-Some
returns-in-Some c = λ same.
    let inside = c.self.inside in
    let path = c.args.path.now in
    subst (λ (g : GraphState). is_owned g path ≡ true) c.self.view_is
    (there inside.nodes.now (option_copied inside.before) (option_copied inside.next) inside.left c.self.invariant path
    (ap option_copied c.in-Some.is ∙ ap Some ((same_path-decides c.in-Some.first.now path).0 (sym c.eq.ensures ∙ same))))
