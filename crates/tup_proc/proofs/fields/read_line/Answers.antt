use Rattle.tup_proc.proofs.Unread.{line_uncut, other_mark, unmarked}
use Rattle.tup_proc.proofs.fields.read_line.Goals as goal

pub returns-in_default : goal.returns-in_default
returns-in_default c = line_uncut c.args.bytes.now c.in_default.ensures

pub returns-else-is_mark-4 : goal.returns-else-is_mark-4
returns-else-is_mark-4 c =
    other_mark c.args.bytes.now c.in-Some.mark.now c.in-Some.said.now c.in-Some.ensures
    (unmarked c.in-Some.mark.now 82 c.is_mark.result c.is_mark.ensures c.if-is_mark.false)
    (unmarked c.in-Some.mark.now 65 c.is_mark-else-is_mark.result c.is_mark-else-is_mark.ensures c.if-is_mark-2.false)
    (unmarked c.in-Some.mark.now 87 c.is_mark-else-is_mark-2.result c.is_mark-else-is_mark-2.ensures c.if-is_mark-3.false)
    (unmarked c.in-Some.mark.now 69 c.is_mark-else-is_mark-3.result c.is_mark-else-is_mark-3.ensures c.if-is_mark-4.false)
