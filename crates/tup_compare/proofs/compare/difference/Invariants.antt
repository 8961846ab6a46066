use Rattle.std.proofs.Common.{◌≡◌, drop}
use Rattle.tup_compare.specs.Compared as specs
use Rattle.tup_compare.proofs.compare.difference.Given as goal

abbrev pub invariant-loop-here : goal.invariant-loop-here
invariant-loop-here l = specs.difference (drop l.here-index l.one) l.left ≡ specs.difference l.one l.other
