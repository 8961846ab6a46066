use Rattle.std.proofs.Common.{◌≡◌, ◌++◌, filter_map, drop}
use Rattle.tup_rule_diff.specs.Edits.{unread}
use Rattle.tup_rule_diff.proofs.clearing.push_unread.Given as goal

abbrev pub invariant-loop-dir : goal.invariant-loop-dir
invariant-loop-dir l = l.edits ++ filter_map (unread l.nodes) (drop l.dir-index l.gone) ≡ l.fn.edits ++ filter_map (unread l.nodes) l.gone
