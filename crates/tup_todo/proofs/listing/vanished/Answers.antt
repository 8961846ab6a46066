use Rattle.std.proofs.Common.{ap, ◌∙◌}
use Rattle.std.specs.FinMap as finite
use Rattle.std.specs.Map.Iter.{deref_pair}
use Rattle.std.proofs.lemmas.Map.Iter.{iter_end}
use Rattle.tup_todo.proofs.Listed.{vanished_of}
use Rattle.tup_todo.proofs.listing.vanished.Goals as goal

pub returns : goal.returns
returns c =
    let all = iter_end deref_pair (finite.entries c.args.nodes.now.owned) c.loop-path.yielded c.into_iter-path-iterator.result c.loop-path.path-iterator c.next.new.self c.next.result
    (c.into_iter-path-iterator.ensures.into_iter_gives ∙ c.owned-path-items.ensures) c.loop-path.yielded_by c.in-None.is c.next.ensures.steps in
    c.loop-path.invariant ∙ ap (vanished_of c.args.nodes.now) all.0
