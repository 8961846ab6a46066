use Rattle.tup_site.proofs.Kept.{mark_now, mark_held}
use Rattle.tup_site.proofs.memory.MemSite.mark.Goals as goal

pub invariant_of-self : goal.invariant_of-self
invariant_of-self c =
    let site = c.args.self.now in
    record {
      is_tree = site.is_tree;
      is_now = mark_now site c.push_reserved.new.self.items c.args.change c.requires.mark c.push_reserved.ensures.items;
      is_held = mark_held site c.push_reserved.new.self.items c.args.change c.requires.mark c.push_reserved.ensures.items;
    }
