use Rattle.std.proofs.Common.{◌+◌, ◌∷◌, drop, sym, ap, arith, ◌∙◌}
use Rattle.std.proofs.lemmas.List.{at_drop_more, at_drop_all}
use Rattle.tup_path.specs.Tree.{Tree, tree_of_files}
use Rattle.tup_site.specs.Choice.{chosen}
use Rattle.tup_site.proofs.Crashing.{same_copy}
use Rattle.tup_site.proofs.memory.MemSite.chosen_files.Goals as goal

pub loop-path-preserved : goal.loop-path-preserved
loop-path-preserved c =
    let list = c.args.choice.now in
    let i = c.loop-path.path-index in
    let file = c.loop-path-item.result in
    let tree = tree_of_files c.loop-path.files.entries in
    ap (λ (t : Tree). chosen t (drop (i + 1) list)) c.in_ok-change_file.ensures ∙ ap (λ f. chosen tree (f ∷ drop (i + 1) list)) c.loop-path-item.is
    ∙ sym (at_drop_more (chosen tree) list i file (omega arith)) ∙ c.loop-path.invariant

pub returns : goal.returns
returns c =
    let list = c.args.choice.now in
    sym (at_drop_all (chosen (tree_of_files c.loop-path.files.entries)) list c.loop-path.path-index (omega arith)) ∙ c.loop-path.invariant
    ∙ ap (λ es. chosen (tree_of_files es) list) (same_copy c.args.self.now.files c.in_ok-files.files c.in_ok-files.ensures.cases)
