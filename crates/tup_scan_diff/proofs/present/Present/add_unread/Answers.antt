use Rattle.std.proofs.Common.{List, ◌∷◌, [], sym, subst, map}
use Rattle.std.specs.Map.Iter.{deref}
use Rattle.std.proofs.lemmas.List.{map-append}
use Rattle.tup_path.specs.Name.{Names}
use Rattle.tup_path.specs.Order.{by_names}
use Rattle.tup_scan_diff.specs.Sets.{GrowsBy}
use Rattle.tup_scan_diff.specs.Stale.{IsUnreadIn}
use Rattle.tup_scan_diff.proofs.Staled.{unread_more}
use Rattle.tup_scan_diff.proofs.present.Present.add_unread.Goals as goal

pub loop-dir-preserved : goal.loop-dir-preserved
loop-dir-preserved c =
    subst (λ (l : List Names). GrowsBy by_names (IsUnreadIn c.args.self.now l) c.args.dirs.now c.add_if_unread.new.dirs) (sym (map-append deref c.loop-dir.yielded (c.in-Some.dir ∷ [])))
    (unread_more c.args.self.now (map deref c.loop-dir.yielded) c.in-Some.dir.now c.args.dirs.now c.loop-dir.dirs c.add_if_unread.new.dirs c.loop-dir.invariant c.in_ok-add_if_unread.ensures.added)
