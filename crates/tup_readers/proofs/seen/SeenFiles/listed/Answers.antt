use Rattle.std.proofs.Common.{List, ◌∙◌, sym, subst}
use Rattle.std.specs.Borrow.{Bor}
use Rattle.std.specs.FinMap as finite
use Rattle.std.specs.Map.Iter.{deref_pair}
use Rattle.std.proofs.lemmas.Map.Iter.{iter_end}
use Rattle.tup_path.specs.Name.{Names}
use Rattle.tup_stamp.specs.declared.Stamp.{Stamp}
use Rattle.tup_readers.specs.Seen.{AreSeen}
use Rattle.tup_readers.proofs.Listing.{all_seen}
use Rattle.tup_readers.proofs.seen.SeenFiles.listed.Goals as goal

pub invariant_of-result : goal.invariant_of-result
invariant_of-result c =
    let seen = c.args.nodes.now.seen in
    let all = iter_end deref_pair (finite.entries seen) c.loop-file.yielded c.into_iter-file-iterator.result c.loop-file.file-iterator c.next.new.self c.next.result
    (c.into_iter-file-iterator.ensures.into_iter_gives ∙ c.files-file-items.ensures) c.loop-file.yielded_by c.in-None.is c.next.ensures.steps in
    subst (λ (l : List (Bor Names × Bor Stamp)). AreSeen seen l) (sym c.loop-file.invariant) (all_seen seen c.loop-file.yielded all.0)
