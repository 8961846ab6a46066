use Rattle.tup_path.specs.Tree.{tree_of_files}
use Rattle.tup_site.proofs.Kept.{crash_now, crash_held}
use Rattle.tup_site.proofs.memory.MemSite.go_on.Goals as goal

pub invariant_of-self : goal.invariant_of-self
invariant_of-self c =
    let site = c.args.self.now in
    record {
      is_tree = c.requires.tree;
      is_now = crash_now site c.push_reserved.new.self.items c.args.choice (tree_of_files c.args.files.entries) c.args.store.items c.requires.files c.requires.tree c.requires.known c.requires.store c.push_reserved.ensures.items;
      is_held = crash_held site c.push_reserved.new.self.items c.args.choice c.args.known.contents.entries c.requires.held c.push_reserved.ensures.items;
    }
