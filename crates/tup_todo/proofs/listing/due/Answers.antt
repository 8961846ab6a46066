use Rattle.std.proofs.Common.{ap, ◌∙◌}
use Rattle.std.specs.FinMap as finite
use Rattle.std.specs.Map.Iter.{deref_pair}
use Rattle.std.proofs.lemmas.Map.Iter.{iter_end}
use Rattle.tup_todo.proofs.Listed.{due_of_flags}
use Rattle.tup_todo.proofs.listing.due.Goals as goal

pub returns : goal.returns
returns c =
    let all = iter_end deref_pair (finite.entries c.args.nodes.now.flags) c.loop-number.yielded c.into_iter-number-iterator.result c.loop-number.number-iterator c.next.new.self c.next.result
    (c.into_iter-number-iterator.ensures.into_iter_gives ∙ c.flags-number-items.ensures) c.loop-number.yielded_by c.in-None.is c.next.ensures.steps in
    c.loop-number.invariant ∙ ap (due_of_flags c.args.nodes.now.rules) all.0
