use Rattle.tup_site.proofs.Kept.{fail_now, fail_held}
use Rattle.tup_site.proofs.memory.MemSite.fail.Goals as goal

pub invariant_of-self : goal.invariant_of-self
invariant_of-self c =
    let site = c.args.self.now in
    record {
      is_tree = site.is_tree;
      is_now = fail_now site c.push_reserved.new.self.items c.saturating_add-self.result c.saturating_add-self.ensures c.push_reserved.ensures.items;
      is_held = fail_held site c.push_reserved.new.self.items c.push_reserved.ensures.items;
    }
