use Rattle.std.proofs.Common.{string_bytes}
use Rattle.tup_db.proofs.Restoring.{written_off}
use Rattle.tup_db.proofs.epoch.set_gate.Goals as goal

pub returns-clause-cause : goal.returns-clause-cause
returns-clause-cause g c = written_off (string_bytes c.args.disk.now.root) c.args.store.now c.write.new.self c.write.result c.requires c.write.ensures.own c.write.ensures.cause
