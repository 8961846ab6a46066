use Rattle.std.proofs.Common.{ap, sym, ◌∙◌}
use Rattle.std.specs.FinMap as finite
use Rattle.tup_path.specs.Name.{Names, Content}
use Rattle.tup_path.specs.Tree.{tree_of_files}
use Rattle.tup_site.specs.Edit.{edited}
use Rattle.tup_site.proofs.Changes.{set_in_tree, unset_in_tree}
use Rattle.tup_site.proofs.crash.change_file.Goals as goal

pub returns-in_ok-insert-in-Some : goal.returns-in_ok-insert-in-Some
returns-in_ok-insert-in-Some c =
    let tree = tree_of_files c.args.files.now.entries in
    set_in_tree c.args.files.now c.insert.new.self c.in_ok-clone-in-Some.field-0 c.in_ok-clone-in-Some-2.field-0 c.in_ok-insert-in-Some.ensures.updates
    ∙ ap (λ (p : Names). finite.insert tree p c.in_ok-clone-in-Some-2.field-0) c.in_ok-clone-in-Some.ensures.cases
    ∙ ap (λ (b : Content). finite.insert tree c.args.path.now b) c.in_ok-clone-in-Some-2.ensures.cases ∙ ap (edited tree c.args.path.now) (sym c.in-Some.is)

pub returns-in-None : goal.returns-in-None
returns-in-None c =
    unset_in_tree c.args.files.now c.remove.new.self c.args.path.now c.remove.ensures.updates
    ∙ ap (edited (tree_of_files c.args.files.now.entries) c.args.path.now) (sym c.in-None.is)
