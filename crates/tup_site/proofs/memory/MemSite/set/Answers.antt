use Rattle.std.proofs.Common.{sym, subst, ap, ◌∙◌}
use Rattle.tup_path.specs.Tree.{IsTree, tree_of_files}
use Rattle.tup_stamp.specs.Stamp.{stamp}
use Rattle.tup_site.specs.Memory.{tree_in}
use Rattle.tup_site.specs.Sound.{IsNow}
use Rattle.tup_site.proofs.Changes.{set_in_tree, on_err, on_ok}
use Rattle.tup_site.proofs.Kept.{set_now, set_held, taken_so, unset_again}
use Rattle.tup_site.proofs.Trees.{put_tree}
use Rattle.tup_site.proofs.memory.MemSite.set.Goals as goal

pub invariant_of-self-then-is_err : goal.invariant_of-self-then-is_err
invariant_of-self-then-is_err c =
    let site = c.args.self.now in
    let same = on_err c.insert.result (sym c.is_err.ensures.value ∙ c.if-is_err.true) c.insert.ensures.err in
    let key = c.stamp_of-stamp.ensures ∙ ap stamp c.as_slice.ensures in
    record {
      is_tree = subst (λ es. IsTree (tree_of_files es)) (sym same) site.is_tree;
      is_now = subst (λ es. IsNow site.first site.changes.items (tree_of_files es) site.store.items site.faults) (sym same) site.is_now;
      is_held = unset_again site c.take.new.self.contents.entries c.undo.new.self.contents.entries c.stamp_of-stamp.result c.in_ok-clone.field-0 c.args.content c.in_ok-is_new.is_new c.requires.joins key c.in_ok-clone.ensures.cases c.in_ok-is_new.ensures.is_new c.in_ok-is_new.ensures.taken c.undo.ensures;
    }

pub invariant_of-self-2 : goal.invariant_of-self-2
invariant_of-self-2 c =
    let site = c.args.self.now in
    let updates = on_ok c.insert.result (sym c.is_err.ensures.value ∙ c.if-is_err.false) c.insert.ensures.updates in
    let tree = set_in_tree site.files c.insert.new.self c.args.path c.args.content updates in
    let key = c.stamp_of-stamp.ensures ∙ ap stamp c.as_slice.ensures in
    record {
      is_tree = subst IsTree (sym tree) (put_tree (tree_in site) c.args.path c.args.content site.is_tree c.depth.ensures.path c.requires.place);
      is_now = set_now site c.push_reserved.new.self.items c.args.path c.args.content c.args.change (tree_of_files c.insert.new.self.entries) c.depth.ensures.path c.requires.place c.requires.joins c.requires.change tree c.push_reserved.ensures.items;
      is_held = set_held site c.push_reserved.new.self.items c.args.path c.args.content c.args.change c.take.new.self.contents.entries c.requires.joins c.requires.change
          (taken_so site.known.contents.entries c.take.new.self.contents.entries c.stamp_of-stamp.result c.in_ok-clone.field-0 c.args.content key c.in_ok-clone.ensures.cases c.in_ok-is_new.ensures.taken) c.push_reserved.ensures.items;
    }

pub returns-clause-set : goal.returns-clause-set
returns-clause-set c =
    let updates = on_ok c.insert.result (sym c.is_err.ensures.value ∙ c.if-is_err.false) c.insert.ensures.updates in
    set_in_tree c.args.self.now.files c.insert.new.self c.args.path c.args.content updates
