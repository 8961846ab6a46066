use Rattle.std.proofs.Common.{◌≡◌, sym, subst}
use Rattle.tup_path.specs.Name.{Names}
use Rattle.tup_path.specs.Order.{by_names}
use Rattle.tup_path.proofs.Same.{by_names-decides}
use Rattle.tup_scan_diff.specs.Sets.{GrowsBy}
use Rattle.tup_scan_diff.proofs.Sets.{added_if, one_key}
use Rattle.tup_scan_diff.proofs.present.Present.add_if_unread.Goals as goal

pub returns-in_ok-insert-in-None-clause-added : goal.returns-in_ok-insert-in-None-clause-added
returns-in_ok-insert-in-None-clause-added c =
    added_if c.args.dir.now c.args.dirs.now c.insert.new.self (sym c.in-None.ensures)
    (subst (λ (d : Names). GrowsBy by_names (λ k. k ≡ d) c.args.dirs.now c.insert.new.self) c.in_ok-clone-in-None.ensures.cases
    (one_key by_names by_names-decides c.args.dirs.now c.insert.new.self c.in_ok-clone-in-None.field-0 c.in_ok-insert-in-None.ensures.updates c.in_ok-insert-in-None.ensures.ordered))
