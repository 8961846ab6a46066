use Rattle.std.proofs.Common.{◌≡◌, ◌<◌, ℕ, true}
use Rattle.tup_core.specs.Waiting.{flag, times}
use Rattle.tup_core.proofs.links.are_up.Given as goal

abbrev pub invariant-loop-list : goal.invariant-loop-list
invariant-loop-list l = (other at : ℕ) → other < l.list-index → 0 < times l.lists other at → flag l.flags at ≡ true
