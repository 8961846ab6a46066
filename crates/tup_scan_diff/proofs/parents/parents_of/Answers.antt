use Rattle.std.proofs.Common.{List, ◌∷◌, [], sym, subst, map}
use Rattle.std.specs.Map.Iter.{deref}
use Rattle.std.proofs.lemmas.List.{map-append}
use Rattle.tup_path.specs.Name.{Names}
use Rattle.tup_scan_diff.specs.Parents.{AreParents}
use Rattle.tup_scan_diff.proofs.Parented.{no_parents, parent_more}
use Rattle.tup_scan_diff.proofs.parents.parents_of.Goals as goal

pub loop-folder-init : goal.loop-folder-init
loop-folder-init c = no_parents c.new-parents.result

pub loop-folder-preserved : goal.loop-folder-preserved
loop-folder-preserved c =
    subst (λ (l : List Names). AreParents l c.add_parent.new.parents) (sym (map-append deref c.loop-folder.yielded (c.in-Some.folder ∷ [])))
    (parent_more (map deref c.loop-folder.yielded) c.in-Some.folder.now c.loop-folder.parents c.add_parent.new.parents c.loop-folder.invariant c.in_ok-add_parent.ensures.added)
