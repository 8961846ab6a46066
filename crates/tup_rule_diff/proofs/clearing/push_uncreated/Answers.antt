use Rattle.std.proofs.Common.{◌∙◌, ◌++◌, List, map, ap}
use Rattle.std.specs.FinMap as finite
use Rattle.std.specs.Map.Iter.{deref_pair}
use Rattle.std.proofs.lemmas.Map.Iter.{iter_end}
use Rattle.tup_rule_diff.specs.Edits.{uncreate}
use Rattle.tup_rule_diff.proofs.Pushing.{item_more, given}
use Rattle.tup_rule_diff.proofs.clearing.push_uncreated.Goals as goal

pub loop-dir-preserved : goal.loop-dir-preserved
loop-dir-preserved c =
    item_more deref_pair uncreate c.args.edits.now c.loop-dir.edits c.push.new.self c.loop-dir.yielded (c.in-Some.dir, c.in-Some.field-0-1) c.in_ok-uncreated.field-0 (given c.in_ok-uncreated.field-0 (uncreate (deref_pair (c.in-Some.dir, c.in-Some.field-0-1))) _ c.in_ok-uncreated.ensures) c.loop-dir.invariant c.in_ok-push.ensures.ok

pub returns-clause-ok : goal.returns-clause-ok
returns-clause-ok c =
    let all = iter_end deref_pair (finite.entries c.args.nodes.now.created) c.loop-dir.yielded c.into_iter-dir-iterator.result c.loop-dir.dir-iterator c.next.new.self c.next.result
    (c.into_iter-dir-iterator.ensures.into_iter_gives ∙ c.created-dir-items.ensures) c.loop-dir.yielded_by c.in-None.is c.next.ensures.steps in
    c.loop-dir.invariant ∙ ap (λ (l : List _). c.args.edits.now ++ map uncreate l) all.0
