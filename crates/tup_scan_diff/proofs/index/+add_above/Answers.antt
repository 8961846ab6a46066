use Rattle.std.proofs.Common.{sym, subst, ◌∙◌}
use Rattle.tup_path.specs.Order.{by_names}
use Rattle.tup_path.proofs.Same.{by_names-decides}
use Rattle.tup_closure.proofs.Members.{inserted}
use Rattle.tup_scan_diff.specs.Index.{IsParted}
use Rattle.tup_scan_diff.proofs.Indexed.{above_more, all_there}
use Rattle.tup_scan_diff.proofs.index.+add_above.Goals as goal

pub returns-clause-added : goal.returns-clause-added
returns-clause-added t c =
    above_more c.args.path.now c.in-Some.dir c.in-Some.field-0-1 (subst (IsParted c.args.path.now) c.in-Some.is c.in_ok-dir.ensures.parted)
    c.in_ok-add_above.ensures.added (inserted by_names by_names-decides c.add_above.new.folders c.insert.new.self c.in-Some.dir c.in_ok-insert.ensures.updates)

pub returns-then-contains-clause-added : goal.returns-then-contains-clause-added
returns-then-contains-clause-added t c =
    all_there c.args.folders.now c.args.path.now c.in-Some.dir c.in-Some.field-0-1 (subst (IsParted c.args.path.now) c.in-Some.is c.in_ok-dir.ensures.parted) c.requires
    (sym c.contains.ensures ∙ c.if-contains.true)
