use Rattle.std.proofs.Common.{sym, subst, ap, ◌∙◌}
use Rattle.tup_path.specs.Tree.{IsTree, tree_of_files}
use Rattle.tup_site.specs.Edit.{AreATree}
use Rattle.tup_site.specs.History.{contents_of}
use Rattle.tup_site.specs.Known.{IsKnown}
use Rattle.tup_site.specs.Held.{IsHeld}
use Rattle.tup_site.proofs.Kept.{new_now, new_held}
use Rattle.tup_site.proofs.memory.MemSite.new.Goals as goal

pub invariant_of-result : goal.invariant_of-result
invariant_of-result c =
    let first = c.from_vec-first.result in
    let are = subst AreATree c.as_slice.ensures c.in_ok-files.ensures.are_a_tree in
    let known = subst (λ l. IsKnown (contents_of l)) c.as_slice-2.ensures c.in_ok-known.ensures.known in
    let tree = c.in_ok-files.ensures.tree ∙ ap tree_of_files c.as_slice.ensures in
    record {
      is_tree = subst IsTree (sym tree) are.tree;
      is_now = new_now first c.new-2.result.items (tree_of_files c.in_ok-files.files.entries) c.new.result.items c.new-2.ensures.items c.new.ensures.items tree are.tree known;
      is_held = new_held first c.new-2.result.items c.in_ok-known.known.contents.entries c.new-2.ensures.items (subst (λ l. IsHeld c.in_ok-known.known.contents.entries (contents_of l)) c.as_slice-2.ensures c.in_ok-known.ensures.held);
    }
