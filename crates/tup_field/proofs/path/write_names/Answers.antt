use Rattle.tup_field.proofs.Names.{written_more}
use Rattle.tup_field.proofs.path.write_names.Goals as goal

pub loop-name-preserved : goal.loop-name-preserved
loop-name-preserved c =
    written_more c.args.names.now c.args.bytes.now c.loop-name.bytes c.write_name.new.bytes c.name-item.result c.loop-name.name-index c.requires c.loop-name-test.true c.name-item.is c.in_ok-write_name.ensures c.loop-name.invariant
