use Rattle.std.proofs.Common.{◌≡◌, ◌++◌, take}
use Rattle.tup_rule.specs.Makers.{makers_in}
use Rattle.tup_rule.proofs.by_path.add_makers.Given as goal

abbrev pub invariant-loop-path : goal.invariant-loop-path
invariant-loop-path l = l.found.items ≡ l.fn.found.items ++ makers_in l.makers (take l.path-index l.paths)
