use Rattle.std.proofs.Common.{◌∙◌, ◌∷◌, [], map, ap, sym, subst}
use Rattle.std.specs.FinMap as finite
use Rattle.std.specs.Map.Iter.{deref_pair}
use Rattle.std.proofs.lemmas.Map.Iter.{iter_end}
use Rattle.std.proofs.lemmas.List.{map-append}
use Rattle.tup_rule_diff.specs.Owners.{AreOwned}
use Rattle.tup_rule_diff.proofs.Owning.{unmade_of, unmade_more, all_unmade}
use Rattle.tup_rule_diff.proofs.owners.unmade.Goals as goal

pub loop-path-preserved : goal.loop-path-preserved
loop-path-preserved c =
    unmade_more (map deref_pair c.loop-path.yielded) (c.in-Some.path.now, c.in-Some.one.now) c.in_ok-clone.field-0 c.unmade_one.result c.loop-path.owned c.insert.new.self c.in_ok-clone.ensures.cases c.unmade_one.ensures c.loop-path.invariant c.in_ok-insert.ensures.ok
    ∙ ap unmade_of (sym (map-append deref_pair c.loop-path.yielded ((c.in-Some.path, c.in-Some.one) ∷ [])))

pub returns-clause-owned : goal.returns-clause-owned
returns-clause-owned c =
    let before = c.args.nodes.now.owned in
    let all = iter_end deref_pair (finite.entries before) c.loop-path.yielded c.into_iter-path-iterator.result c.loop-path.path-iterator c.next.new.self c.next.result
    (c.into_iter-path-iterator.ensures.into_iter_gives ∙ c.owned-path-items.ensures) c.loop-path.yielded_by c.in-None.is c.next.ensures.steps in
    subst (AreOwned [] before) (sym (c.loop-path.invariant ∙ ap unmade_of all.0)) (all_unmade before)
