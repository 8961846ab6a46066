use Rattle.std.proofs.Common.{◌∙◌}
use Rattle.tup_table.proofs.Snapshots.{written_area}
use Rattle.tup_table.proofs.compacting.full_area.Goals as goal

pub returns : goal.returns
returns c =
    written_area c.args.entries.now c.args.size c.requires.size c.requires.some c.in_ok-bytes.bytes.items c.extend_from_slice.new.self.items c.push_number.new.bytes.items c.push_entries.new.bytes.items c.new.result c.in_ok-bytes.ensures.items
    c.in_ok-extend_from_slice.ensures.items c.in_ok-push_number.ensures c.in_ok-push_entries.ensures (c.new.ensures ∙ c.in_ok-extend_from_slice-2.ensures.items)
