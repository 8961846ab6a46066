use Rattle.std.proofs.Common.{◌∙◌, ◌∷◌, [], ◌++◌, List, map, ap, sym}
use Rattle.std.specs.Map.Iter.{deref}
use Rattle.std.proofs.lemmas.List.{map-append}
use Rattle.tup_scan_diff.specs.Edits.{create_edits}
use Rattle.tup_scan_diff.proofs.Editing.{pushed, create_both}
use Rattle.tup_scan_diff.proofs.present.Present.push_created.Goals as goal

pub loop-dir-preserved : goal.loop-dir-preserved
loop-dir-preserved c =
    let g = c.args.self.now.nodes.now in
    pushed (create_edits g) (create_both g) c.args.edits.now c.loop-dir.edits c.push_if_uncreated.new.edits (map deref c.loop-dir.yielded) c.in-Some.dir.now c.loop-dir.invariant c.in_ok-push_if_uncreated.ensures.ok
    ∙ ap (λ (l : List _). c.args.edits.now ++ create_edits g l) (sym (map-append deref c.loop-dir.yielded (c.in-Some.dir ∷ [])))
