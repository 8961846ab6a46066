use Rattle.std.proofs.Common.{◌≡◌}
use Rattle.tup_clean.specs.Clean.{with_files}
use Rattle.tup_clean.proofs.tree.FileTree.put_all.Given as goal

abbrev pub invariant-loop-path : goal.invariant-loop-path
invariant-loop-path l = l.self ≡ with_files l.fn.self l.yielded
