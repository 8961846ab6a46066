use Rattle.std.proofs.Common.{◌≡◌, drop, option_map}
use Rattle.std.specs.Map.Iter.{deref}
use Rattle.tup_rule_line.proofs.Globs.{with_names}
use Rattle.tup_rule_line.proofs.glob_word.add_names.Given as goal

abbrev pub invariant-loop-path : goal.invariant-loop-path
invariant-loop-path l = with_names (option_map deref l.glob) l.dir l.names.keys (drop l.path-index l.paths) ≡ with_names (option_map deref l.glob) l.dir l.fn.names.keys l.paths
