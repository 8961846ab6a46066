use Rattle.std.proofs.Common.{map}
use Rattle.std.specs.Map.Iter.{deref_pair}
use Rattle.tup_rule_diff.specs.Edits.{PutsNews, WasOwned, own_so}
use Rattle.tup_rule_diff.proofs.putting.push_new_owned.Given as goal

abbrev pub invariant-loop-path : goal.invariant-loop-path
invariant-loop-path l = PutsNews (WasOwned l.nodes) own_so (map deref_pair l.yielded) l.fn.edits l.edits
