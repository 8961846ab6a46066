use Rattle.std.proofs.Common.{◌≡◌, not, filter, take}
use Rattle.std.specs.BTreeSet.{contains}
use Rattle.tup_path.specs.Order.{by_names}
use Rattle.tup_compare.proofs.found.paths_beside.Given as goal

abbrev pub invariant-loop-path : goal.invariant-loop-path
invariant-loop-path l = l.left ≡ filter (λ path. not (contains by_names l.set path)) (take l.path-index l.paths)
