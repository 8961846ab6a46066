use Rattle.tup_site.proofs.Kept.{write_now, write_held}
use Rattle.tup_site.proofs.memory.MemSite.write.Goals as goal

pub invariant_of-self-2 : goal.invariant_of-self-2
invariant_of-self-2 c =
    let site = c.args.self.now in
    record {
      is_tree = site.is_tree;
      is_now = write_now site c.push_reserved.new.self.items c.args.at c.args.bytes.now c.args.change c.overwrite.new.store.items c.requires.at c.requires.change c.in_ok-overwrite.ensures.written c.push_reserved.ensures.items;
      is_held = write_held site c.push_reserved.new.self.items c.args.at c.args.bytes.now c.args.change c.requires.change c.push_reserved.ensures.items;
    }
