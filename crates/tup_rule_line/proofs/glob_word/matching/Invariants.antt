use Rattle.std.proofs.Common.{◌≡◌, map, filter_map}
use Rattle.std.specs.Map.Iter.{deref}
use Rattle.tup_rule_line.specs.Glob as specs
use Rattle.tup_rule_line.proofs.glob_word.matching.Given as goal

abbrev pub invariant-loop-name : goal.invariant-loop-name
invariant-loop-name l = l.inputs ≡ filter_map (specs.matching l.dir l.glob) (map deref l.yielded)
