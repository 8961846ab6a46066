use Rattle.std.proofs.Common.{◌∙◌, ap}
use Rattle.std.specs.FinMap as finite
use Rattle.std.specs.Map.Iter.{deref_pair}
use Rattle.std.proofs.lemmas.Map.Iter.{iter_end}
use Rattle.tup_refresh.specs.Refresh.{gone_among}
use Rattle.tup_refresh.proofs.gone.gone.Goals as goal

pub returns : goal.returns
returns c =
    let all = iter_end deref_pair (finite.entries c.args.nodes.now.readings) c.loop-dir.yielded c.into_iter-dir-iterator.result c.loop-dir.dir-iterator c.next.new.self c.next.result
    (c.into_iter-dir-iterator.ensures.into_iter_gives ∙ c.readings-dir-items.ensures) c.loop-dir.yielded_by c.in-None.is c.next.ensures.steps in
    c.loop-dir.invariant ∙ ap (gone_among c.args.sources.now) all.0
