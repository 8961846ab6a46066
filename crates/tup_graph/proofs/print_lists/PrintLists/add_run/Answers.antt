use Rattle.std.proofs.Common.{List, Option, subst}
use Rattle.std.proofs.lemmas.Result.{on_ok_weaker}
use Rattle.tup_path.specs.Name.{Names}
use Rattle.tup_stamp.specs.declared.Stamp.{Stamp}
use Rattle.tup_graph.specs.Lists.{Adds, IsIn}
use Rattle.tup_graph.proofs.Printing.{run_added}
use Rattle.tup_graph.proofs.print_lists.PrintLists.add_run.Goals as goal

pub returns : goal.returns
returns c =
    let run = c.args.run.now in
    let a = c.args.self.now in
    let b = c.add_told.new.self in
    let d = c.add_told-2.new.self in
    let n = c.args.number in
    on_ok_weaker c.add_told-2.result
    (λ writes.
    run_added n run a b d
    (subst (λ (l : List (Names × Option Stamp)). Adds n (IsIn l) a b) c.as_slice.ensures c.in_ok-add_told.ensures)
    (subst (λ (l : List (Names × Stamp)). Adds n (IsIn l) b d) c.as_slice-2.ensures writes))
    c.add_told-2.ensures
