use Rattle.std.proofs.Common.{List, subst}
use Rattle.std.specs.Prelude.{Contains}
use Rattle.std.proofs.lemmas.Result.{on_ok_weaker}
use Rattle.tup_path.specs.Name.{Names}
use Rattle.tup_graph.specs.Lists.{Adds}
use Rattle.tup_graph.proofs.Printing.{rule_added}
use Rattle.tup_graph.proofs.print_lists.PrintLists.add_rule.Goals as goal

pub returns : goal.returns
returns c =
    let rule = c.args.rule.now in
    let a = c.args.self.now in
    let b = c.add_paths.new.self in
    let d = c.add_paths-2.new.self in
    let e = c.add_paths-3.new.self in
    let n = c.args.number in
    on_ok_weaker c.add_paths-3.result
    (λ outputs.
    rule_added n rule a b d e
    (subst (λ (l : List Names). Adds n (Contains l) a b) c.as_slice.ensures c.in_ok-add_paths.ensures)
    (subst (λ (l : List Names). Adds n (Contains l) b d) c.as_slice-2.ensures c.in_ok-add_paths-2.ensures)
    (subst (λ (l : List Names). Adds n (Contains l) d e) c.as_slice-3.ensures outputs))
    c.add_paths-3.ensures
