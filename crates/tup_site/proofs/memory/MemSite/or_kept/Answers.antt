use Rattle.tup_site.proofs.Tearing.{kept_is_choice, kept_leaves}
use Rattle.tup_site.proofs.memory.MemSite.or_kept.Goals as goal

pub returns : goal.returns
returns c =
    let choice = c.in_ok-kept-in-Err.field-0 in
    let is = c.in_ok-kept-in-Err.ensures in
    record { is_choice = kept_is_choice c.args.self.now choice is.tree; leaves = kept_leaves c.args.self.now choice is.tree is.store; memory = tt }
