use Rattle.tup_scan_diff.proofs.Staled.{all_stale}
use Rattle.tup_scan_diff.proofs.present.Present.stale.Goals as goal

pub returns-clause-stale : goal.returns-clause-stale
returns-clause-stale c = λ config is.
    all_stale config c.args.self.now is c.new-dirs.result c.add_outdated.new.dirs c.add_unread.new.dirs c.new-dirs.ensures.empty (c.in_ok-add_outdated.ensures.added config is) c.in_ok-add_unread.ensures.added

pub returns-clause-ordered : goal.returns-clause-ordered
returns-clause-ordered c =
    c.in_ok-add_unread.ensures.added.ordered ((c.in_ok-add_outdated.ensures.added c.requires.present.0 c.requires.present.1).ordered c.new-dirs.ensures.ordered)
