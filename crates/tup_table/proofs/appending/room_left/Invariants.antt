use Rattle.std.proofs.Common.{◌≡◌, ◌+◌, length, drop}
use Rattle.tup_table.specs.Store.{payload}
use Rattle.tup_table.proofs.appending.room_left.Given as goal

abbrev pub invariant-loop-change : goal.invariant-loop-change
invariant-loop-change l = l.left + length (payload l.changes) ≡ l.room + length (payload (drop l.change-index l.changes))
