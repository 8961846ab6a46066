use Rattle.tup_site.proofs.Kept.{cut_now, cut_held}
use Rattle.tup_site.proofs.memory.MemSite.cut.Goals as goal

pub invariant_of-self : goal.invariant_of-self
invariant_of-self c =
    let site = c.args.self.now in
    record {
      is_tree = site.is_tree;
      is_now = cut_now site c.push_reserved.new.self.items c.args.len c.truncate.new.self.items c.truncate.ensures.items c.push_reserved.ensures.items;
      is_held = cut_held site c.push_reserved.new.self.items c.args.len c.push_reserved.ensures.items;
    }
