use Rattle.std.proofs.Common.{◌≡◌, ◌++◌, map, drop}
use Rattle.tup_graph.specs.Transactions.{seen_so}
use Rattle.tup_graph.proofs.finish.push_seen.Given as goal

abbrev pub invariant-loop-file : goal.invariant-loop-file
invariant-loop-file l = l.edits ++ map seen_so (drop l.file-index l.file-items) ≡ l.fn.edits ++ map seen_so l.file-items
