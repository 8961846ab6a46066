use Rattle.tup_site.proofs.Changes.{stays_without, unset_in_tree}
use Rattle.tup_site.proofs.Kept.{unset_now, unset_held}
use Rattle.tup_site.proofs.memory.MemSite.erase.Goals as goal

pub invariant_of-self : goal.invariant_of-self
invariant_of-self c =
    let site = c.args.self.now in
    record {
      is_tree = stays_without site.files c.remove.new.self c.args.path.now site.is_tree c.remove.ensures.updates;
      is_now = unset_now site c.push_reserved.new.self.items c.args.path.now c.args.change _ c.requires.change (unset_in_tree site.files c.remove.new.self c.args.path.now c.remove.ensures.updates) c.push_reserved.ensures.items;
      is_held = unset_held site c.push_reserved.new.self.items c.args.path.now c.args.change c.requires.change c.push_reserved.ensures.items;
    }

pub returns-clause-erased : goal.returns-clause-erased
returns-clause-erased c = unset_in_tree c.args.self.now.files c.remove.new.self c.args.path.now c.remove.ensures.updates
