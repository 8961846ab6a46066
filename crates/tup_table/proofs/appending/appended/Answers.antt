use Rattle.tup_table.proofs.Appends.{each_fits, appended_is}
use Rattle.tup_table.proofs.appending.appended.Goals as goal

pub push_changes-requires : goal.push_changes-requires
push_changes-requires c = each_fits c.args.changes.now c.requires c.args.gate c.in-Some.length c.in-Some.ensures.0 c.in-Some.ensures.1

pub returns : goal.returns
returns c =
    appended_is c.args.changes.now c.requires c.args.gate c.in-Some.length c.in-Some.ensures.0 c.in-Some.ensures.1 c.in_ok-bytes.bytes.items c.push_number.new.bytes.items c.push_changes.new.bytes.items
    c.extend_from_slice.new.self.items c.new.result c.in_ok-bytes.ensures.items c.in_ok-push_number.ensures c.in_ok-push_changes.ensures c.in_ok-extend_from_slice.ensures.items c.new.ensures
