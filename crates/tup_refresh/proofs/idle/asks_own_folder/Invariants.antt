use Rattle.std.proofs.Common.{◌≡◌, true, take}
use Rattle.tup_refresh.specs.Idle.{are_own}
use Rattle.tup_refresh.proofs.idle.asks_own_folder.Given as goal

abbrev pub invariant-loop-one : goal.invariant-loop-one
invariant-loop-one l = are_own l.reader (take l.one-index l.asked) ≡ true
