use Rattle.std.proofs.Common.{◌≡◌, ◌++◌, take}
use Rattle.tup_link.proofs.places.add_all.Given as goal

abbrev pub invariant-loop-one : goal.invariant-loop-one
invariant-loop-one l = l.all ≡ l.fn.all ++ take l.one-index l.more
