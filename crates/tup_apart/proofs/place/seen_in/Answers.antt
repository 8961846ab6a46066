use Rattle.std.proofs.Common.{◌∙◌, map, ap}
use Rattle.std.specs.FinMap as finite
use Rattle.std.specs.Map.Iter.{deref_pair}
use Rattle.std.proofs.lemmas.Map.Iter.{iter_end}
use Rattle.tup_path.specs.Name.{Names}
use Rattle.tup_stamp.specs.declared.Stamp.{Stamp}
use Rattle.tup_apart.proofs.place.seen_in.Goals as goal

pub returns : goal.returns
returns c =
    let all = iter_end deref_pair (finite.entries c.args.nodes.now.seen) c.loop-path.yielded c.into_iter-path-iterator.result c.loop-path.path-iterator c.next.new.self c.next.result
    (c.into_iter-path-iterator.ensures.into_iter_gives ∙ c.files-path-items.ensures) c.loop-path.yielded_by c.in-None.is c.next.ensures.steps in
    c.loop-path.invariant ∙ ap (map (λ (file : Names × Stamp). file.0)) all.0
