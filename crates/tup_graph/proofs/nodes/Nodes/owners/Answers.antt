use Rattle.std.proofs.Common.{List, Option, None, sym, subst}
use Rattle.std.specs.Map.Iter.{TakesFirst, deref_pair}
use Rattle.tup_path.specs.Name.{Names}
use Rattle.tup_graph.specs.Owners.{IsPlace}
use Rattle.tup_graph.specs.declared.owned.Owned.{Owned}
use Rattle.tup_graph.proofs.Owning.{place_begins}
use Rattle.tup_graph.proofs.nodes.Nodes.owners.Goals as goal

pub invariant_of-result : goal.invariant_of-result
invariant_of-result c =
    let g = c.args.self.now in
    let after = c.next.new.self in
    subst (λ (key : Option Names). IsPlace g None key after) (sym c.path_of-next.ensures)
    (place_begins deref_pair g c.next.result after (subst (λ (entries : List (Names × Owned)). TakesFirst deref_pair entries c.next.result after) c.owned-left.ensures c.next.ensures.steps))
