use Rattle.std.proofs.Common.{Option, refl, sym, subst}
use Rattle.std.specs.BTreeSet.{BTreeSet}
use Rattle.std.specs.Prelude.{IfSome}
use Rattle.tup_path.specs.Name.{Names}
use Rattle.tup_path.specs.Order.{by_names}
use Rattle.tup_scan_diff.specs.Sets.{Has}
use Rattle.tup_scan_diff.specs.Index.{IsParted}
use Rattle.tup_scan_diff.proofs.Indexed.{adds_file, top_added}
use Rattle.tup_scan_diff.proofs.index.Index.add_anew.Goals as goal

pub returns-in_default-clause-added : goal.returns-in_default-clause-added
returns-in_default-clause-added c = top_added c.args.path.now c.args.self.now (subst (IsParted c.args.path.now) c.in_default.is c.in_ok-dir.ensures.parted)

pub returns-clause-added : goal.returns-clause-added
returns-clause-added c =
    let parted = subst (IsParted c.args.path.now) c.in-Some.is c.in_ok-dir.ensures.parted in
    adds_file c.args.path.now c.args.self.now (record c.args.self.now { folders = c.add_folder.new.folders }) c.add_name.new.self refl refl (c.in_ok-add_folder.ensures.added c.args.path.now c.in-Some.name parted) c.in-Some.dir c.in-Some.name
    parted c.in_ok-add_name.ensures.folders c.in_ok-add_name.ensures.names c.in_ok-add_name.ensures.tupfiles

pub returns-clause-known : goal.returns-clause-known
returns-clause-known c = λ known.
    let new = c.add_name.new.self in
    let there = subst (λ (folders : BTreeSet Names). Has by_names folders c.in-Some.dir) (sym c.in_ok-add_name.ensures.folders) c.in_ok-add_folder.ensures.there in
    subst (λ (last : Option Names). IfSome last (λ dir. Has by_names new.folders dir)) (sym c.in_ok-add_name.ensures.last) there
