use Rattle.std.proofs.Common.{◌≡◌, ◌++◌, drop}
use Rattle.tup_table.specs.Store.{payload}
use Rattle.tup_table.proofs.appending.push_changes.Given as goal

abbrev pub invariant-loop-change : goal.invariant-loop-change
invariant-loop-change l = l.bytes.items ++ payload (drop l.change-index l.changes) ≡ l.fn.bytes.items ++ payload l.changes
