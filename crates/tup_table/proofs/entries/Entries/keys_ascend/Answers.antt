use Rattle.tup_table.proofs.Kept.{entries_ascend}
use Rattle.tup_table.proofs.entries.Entries.keys_ascend.Goals as goal

pub returns : goal.returns
returns c = entries_ascend c.self.inside.slots.entries c.args.self.now c.self.view_is c.self.invariant.0
