use Rattle.tup_clean.proofs.Sorted.{IsSorted-insert_entry}
use Rattle.tup_board_rows.proofs.clean.insert.Goals as goal

pub returns : goal.returns
returns c = λ sorted. rw c.in_ok-insert.ensures.entries (IsSorted-insert_entry c.args.path c.args.content c.args.contents.now.entries sorted)
