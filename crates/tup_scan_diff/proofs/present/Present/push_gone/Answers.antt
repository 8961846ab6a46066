use Rattle.std.proofs.Common.{◌∙◌, ◌∷◌, [], ◌++◌, List, map, ap, sym}
use Rattle.std.specs.FinMap as finite
use Rattle.std.specs.Map.Iter.{deref_pair}
use Rattle.std.proofs.lemmas.Map.Iter.{iter_end}
use Rattle.std.proofs.lemmas.List.{map-append}
use Rattle.tup_scan_diff.specs.Edits.{gone_edits}
use Rattle.tup_scan_diff.proofs.Editing.{pushed, gone_both}
use Rattle.tup_scan_diff.proofs.present.Present.push_gone.Goals as goal

pub loop-path-preserved : goal.loop-path-preserved
loop-path-preserved c =
    pushed (gone_edits c.args.stamps.now) (gone_both c.args.stamps.now) c.args.edits.now c.loop-path.edits c.push_if_gone.new.edits (map deref_pair c.loop-path.yielded) (c.in-Some.path.now, c.in-Some.stamp.now) c.loop-path.invariant c.in_ok-push_if_gone.ensures.ok
    ∙ ap (λ (l : List _). c.args.edits.now ++ gone_edits c.args.stamps.now l) (sym (map-append deref_pair c.loop-path.yielded ((c.in-Some.path, c.in-Some.stamp) ∷ [])))

pub returns-clause-ok : goal.returns-clause-ok
returns-clause-ok c =
    let all = iter_end deref_pair (finite.entries c.args.self.now.nodes.now.seen) c.loop-path.yielded c.into_iter-path-iterator.result c.loop-path.path-iterator c.next.new.self c.next.result
    (c.into_iter-path-iterator.ensures.into_iter_gives ∙ c.files-path-items.ensures) c.loop-path.yielded_by c.in-None.is c.next.ensures.steps in
    c.loop-path.invariant ∙ ap (λ (l : List _). c.args.edits.now ++ gone_edits c.args.stamps.now l) all.0
