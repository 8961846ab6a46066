use Rattle.std.proofs.Common.{None}
use Rattle.tup_core_rows.proofs.Machines.{seen_of}
use Rattle.tup_core_rows.proofs.machine.Machine.seen_by.Goals as goal

pub returns : goal.returns
returns c = seen_of c.args.self.now c.args.seat c.args.text.now c.in_ok-told.told c.seen_told.result None c.requires.files c.in_ok-told.ensures c.seen_told.ensures
