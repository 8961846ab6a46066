use Rattle.std.proofs.Common.{subst}
use Rattle.tup_path.specs.Order.{by_names}
use Rattle.tup_path.proofs.Same.{by_names-decides}
use Rattle.tup_scan_diff.specs.Index.{IsParted}
use Rattle.tup_scan_diff.proofs.Parented.{one_parent, top_in_none}
use Rattle.tup_scan_diff.proofs.Sets.{one_key}
use Rattle.tup_scan_diff.proofs.parents.add_parent.Goals as goal

pub returns-in_default-clause-added : goal.returns-in_default-clause-added
returns-in_default-clause-added c = top_in_none c.args.folder.now (subst (IsParted c.args.folder.now) c.in_default.is c.in_ok-dir.ensures.parted) c.args.parents.now

pub returns-clause-added : goal.returns-clause-added
returns-clause-added c =
    one_parent c.args.folder.now c.in-Some.dir c.in-Some.field-0-1 (subst (IsParted c.args.folder.now) c.in-Some.is c.in_ok-dir.ensures.parted)
    (one_key by_names by_names-decides c.args.parents.now c.insert.new.self c.in-Some.dir c.in_ok-insert.ensures.updates c.in_ok-insert.ensures.ordered)
