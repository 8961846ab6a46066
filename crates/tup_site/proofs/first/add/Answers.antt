use Rattle.std.proofs.Common.{rules, ◌∙◌, sym, ap, subst, true, ◌≡◌}
use Rattle.std.proofs.lemmas.Bool.{not-false}
use Rattle.std.specs.FinMap as finite
use Rattle.tup_path.specs.Name.{Names, Content}
use Rattle.tup_path.specs.Tree.{IsTree, tree_of_files}
use Rattle.tup_site.proofs.Changes.{taken, may_add, set_in_tree}
use Rattle.tup_site.proofs.Trees.{put_tree}
use Rattle.tup_site.proofs.first.add.Goals as goal

pub returns-then-contains_key-clause-not_a_tree : goal.returns-then-contains_key-clause-not_a_tree
returns-then-contains_key-clause-not_a_tree c refused may = taken c.args.files.now c.args.path.now (sym c.contains_key.ensures ∙ c.if-contains_key.true) may

pub returns-clause-added : goal.returns-clause-added
returns-clause-added c =
    set_in_tree c.args.files.now c.insert.new.self c.in_ok-clone.field-0 c.in_ok-clone-2.field-0 c.in_ok-insert.ensures.updates
    ∙ ap (λ (p : Names). finite.insert (tree_of_files c.args.files.now.entries) p c.in_ok-clone-2.field-0) c.in_ok-clone.ensures.cases
    ∙ ap (λ (b : Content). finite.insert (tree_of_files c.args.files.now.entries) c.args.path.now b) c.in_ok-clone-2.ensures.cases

pub returns-clause-tree : goal.returns-clause-tree
returns-clause-tree c =
    let is : c.is_place.result ≡ true = search (rules, not-false) in
    let added =
    set_in_tree c.args.files.now c.insert.new.self c.in_ok-clone.field-0 c.in_ok-clone-2.field-0 c.in_ok-insert.ensures.updates
    ∙ ap (λ (p : Names). finite.insert (tree_of_files c.args.files.now.entries) p c.in_ok-clone-2.field-0) c.in_ok-clone.ensures.cases in
    subst IsTree (sym added) (put_tree (tree_of_files c.args.files.now.entries) c.args.path.now c.in_ok-clone-2.field-0 c.requires c.depth.ensures.path (c.is_place.ensures.0 is))

pub returns-clause-may : goal.returns-clause-may
returns-clause-may c =
    let is : c.is_place.result ≡ true = search (rules, not-false) in
    may_add c.args.files.now c.args.path.now (sym c.contains_key.ensures ∙ c.if-contains_key.false) (c.is_place.ensures.0 is)
