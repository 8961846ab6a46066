use Rattle.std.proofs.Common.{rules, arith, sym, ap, subst, ◌∙◌}
use Rattle.std.specs.FinMap as finite
use Rattle.tup_path.specs.Tree.{Tree, IsTree, tree_of_files}
use Rattle.tup_site.specs.Edit.{MayAdd}
use Rattle.tup_site.proofs.Made.{no_files}
use Rattle.tup_site.proofs.Listing.{once_next, tree_next, tree_refused}
use Rattle.tup_site.proofs.first.tree_of.Goals as goal

pub loop-path-init : goal.loop-path-init
loop-path-init c = record {
  once = λ i j d below none e. absurd (omega arith);
  same = ap tree_of_files c.new-files.ensures.empty;
  tree = subst (λ es. IsTree (tree_of_files es)) (sym c.new-files.ensures.empty) no_files;
}

pub loop-path-preserved : goal.loop-path-preserved
loop-path-preserved c =
    let file = c.loop-path-item.result in
    let may = subst (λ (t : Tree). MayAdd t file.0) c.loop-path.invariant.same c.in_ok-add.ensures.may in
    record {
      once = once_next c.args.list.now c.loop-path.path-index file (omega arith) c.loop-path-item.is c.loop-path.invariant.once may;
      same = c.in_ok-add.ensures.added ∙ ap (λ t. finite.insert t file.0 file.1) c.loop-path.invariant.same ∙ tree_next c.args.list.now c.loop-path.path-index file (omega arith) c.loop-path-item.is may;
      tree = c.in_ok-add.ensures.tree;
    }

pub returns-in_err-add-clause-not_a_tree : goal.returns-in_err-add-clause-not_a_tree
returns-in_err-add-clause-not_a_tree c e are =
    let file = c.loop-path-item.result in
    let no_place = c.in_err-add.ensures.not_a_tree (search rules) in
    tree_refused c.args.list.now c.loop-path.path-index file (omega arith) c.loop-path-item.is (subst (λ (t : Tree). MayAdd t file.0 → ⊥) c.loop-path.invariant.same no_place) are
