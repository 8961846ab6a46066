use Rattle.std.proofs.Common.{◌∙◌}
use Rattle.tup_table.proofs.Kept.{room_left, settled}
use Rattle.tup_table.proofs.slots.settle.Goals as goal

pub changes-preserved : goal.changes-preserved
changes-preserved c =
    let old = c.changes.slots.entries in
    let new = c.settle_change.new.slots.entries in
    let rest = c.pop_front.new.self.items in
    record {
      ordered = c.settle_change.ensures.ordered;
      room = room_left old new c.args.origin c.changes.changes.items rest c.in-Some.change c.in-Some.ensures.items c.settle_change.ensures.kept c.changes.invariant.room;
      left = settled old new c.args.origin c.changes.changes.items rest c.in-Some.change c.in-Some.ensures.items c.settle_change.ensures.changed ∙ c.changes.invariant.left;
    }
