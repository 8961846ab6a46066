use Rattle.std.proofs.Common.{Option, Some, sym, ap, subst}
use Rattle.std.specs.Map.Iter.{deref_pair}
use Rattle.std.specs.Option.{option_copied}
use Rattle.tup_path.specs.Name.{Names}
use Rattle.tup_graph.specs.Owners.{IsPlace}
use Rattle.tup_graph.proofs.Owning.{place_passed}
use Rattle.tup_graph.proofs.owners.Owners.pass.Goals as goal

pub invariant_of-self : goal.invariant_of-self
invariant_of-self c =
    let inside = c.self.inside in
    let g = inside.nodes.now in
    let first = c.in-Some.first.now in
    let after = c.next.new.self in
    subst (λ (key : Option Names). IsPlace g (Some first) key after) (sym c.path_of-self-inside.ensures)
    (place_passed deref_pair g (option_copied inside.before) first inside.left after c.next.result
    (subst (λ (key : Option Names). IsPlace g (option_copied inside.before) key inside.left) (ap option_copied c.in-Some.is) c.self.invariant) c.next.ensures.steps)
