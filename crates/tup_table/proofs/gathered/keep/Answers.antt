use Rattle.tup_table.proofs.Gathering.{one_kept, one_left_out}
use Rattle.tup_table.proofs.gathered.keep.Goals as goal

pub returns-then-is_replaced : goal.returns-then-is_replaced
returns-then-is_replaced c = one_left_out c.args.kept.now.items c.args.behind.now c.args.slot.now (c.is_replaced.ensures c.if-is_replaced.true)

pub returns : goal.returns
returns c = one_kept c.args.kept.now.items c.args.behind.now c.push.new.self.items c.args.slot.now c.in_ok-copied.field-0 c.in_ok-copied.ensures c.in_ok-push.ensures.items
