use Rattle.tup_table.proofs.Kept.{entry_there, no_entry}
use Rattle.tup_table.proofs.entries.Entries.entry.Goals as goal

pub returns-in-Some : goal.returns-in-Some
returns-in-Some c = entry_there c.self.inside.slots.entries c.args.self.now c.self.invariant.0 c.args.key.now c.self.view_is c.in-Some.slot.now _ c.in-Some.ensures.value c.as_ref.ensures.value

pub returns-in-None : goal.returns-in-None
returns-in-None c = no_entry c.self.inside.slots.entries c.args.self.now c.self.invariant.0 c.args.key.now c.self.view_is c.in-None.ensures.value
