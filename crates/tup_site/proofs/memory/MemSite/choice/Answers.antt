use Rattle.tup_site.proofs.Tearing.{kept_leaves}
use Rattle.tup_site.proofs.memory.MemSite.choice.Goals as goal

pub returns-in_ok-kept-in-Kept-clause-leaves : goal.returns-in_ok-kept-in-Kept-clause-leaves
returns-in_ok-kept-in-Kept-clause-leaves c = kept_leaves c.args.self.now c.in_ok-kept-in-Kept.field-0 c.in_ok-kept-in-Kept.ensures.tree c.in_ok-kept-in-Kept.ensures.store
