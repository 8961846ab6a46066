use Rattle.std.proofs.Common.{◌≡◌, ◌++◌, map}
use Rattle.std.specs.Map.Iter.{deref}
use Rattle.tup_link.specs.Linked.{shown}
use Rattle.tup_link.proofs.Showing.{gap}
use Rattle.tup_link.proofs.texts.add_shown.Given as goal

abbrev pub invariant-loop-path : goal.invariant-loop-path
invariant-loop-path l = record {
  text : l.text ≡ l.fn.text ++ shown l.dir (map deref l.yielded);
  parted : l.gap ≡ gap l.yielded;
}
