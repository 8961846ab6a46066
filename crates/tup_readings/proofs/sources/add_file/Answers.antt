use Rattle.std.proofs.Common.{subst, sym}
use Rattle.std.specs.BTreeSet.{contains}
use Rattle.std.proofs.lemmas.Result.{on_ok_weaker}
use Rattle.tup_path.specs.Name.{Names}
use Rattle.tup_path.specs.Order.{by_names}
use Rattle.tup_readings.specs.Index.{AddsFile, IsParted}
use Rattle.tup_readings.proofs.Indexed.{top_added, top_no_tupfile}
use Rattle.tup_readings.proofs.sources.add_file.Goals as goal

pub returns-in_default-clause-folders : goal.returns-in_default-clause-folders
returns-in_default-clause-folders c = top_added c.args.path.now c.args.folders.now (subst (IsParted c.args.path.now) c.in_default.is c.in_ok-dir.ensures)

pub returns-in_default-clause-tupfiles : goal.returns-in_default-clause-tupfiles
returns-in_default-clause-tupfiles c = λ dir.
    top_no_tupfile (contains by_names c.args.tupfiles.now dir) c.args.path.now dir (subst (IsParted c.args.path.now) c.in_default.is c.in_ok-dir.ensures)

pub returns-clause-folders : goal.returns-clause-folders
returns-clause-folders c =
    let parted = subst (IsParted c.args.path.now) c.in-Some.is c.in_ok-dir.ensures in
    on_ok_weaker c.add_name.result (λ added. subst (λ (path : Names). AddsFile path c.args.folders.now c.add_name.new.folders) (sym parted) added) c.add_name.ensures

pub returns-clause-tupfiles : goal.returns-clause-tupfiles
returns-clause-tupfiles c =
    let parted = subst (IsParted c.args.path.now) c.in-Some.is c.in_ok-dir.ensures in
    on_ok_weaker c.add_name.result (λ named. c.in_ok-add_tupfile.ensures c.args.path.now parted) c.add_name.ensures
