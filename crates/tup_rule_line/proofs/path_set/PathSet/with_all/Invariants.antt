use Rattle.std.proofs.Common.{◌≡◌, fold, take}
use Rattle.indexmap.specs.IndexSet.{insert_key}
use Rattle.tup_path.specs.Order.{same_path}
use Rattle.tup_rule_line.proofs.path_set.PathSet.with_all.Given as goal

abbrev pub invariant-loop-path : goal.invariant-loop-path
invariant-loop-path l = l.set ≡ fold (insert_key same_path) l.fn.self (take l.path-index l.paths)
