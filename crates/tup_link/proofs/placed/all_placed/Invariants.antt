use Rattle.std.proofs.Common.{◌≡◌, take}
use Rattle.tup_link.specs.Placed.{placed}
use Rattle.tup_link.proofs.placed.all_placed.Given as goal

abbrev pub invariant-loop-dir : goal.invariant-loop-dir
invariant-loop-dir l = l.all.items ≡ placed (take l.dir-index l.readings)
