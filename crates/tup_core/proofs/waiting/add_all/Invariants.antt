use Rattle.std.proofs.Common.{◌≡◌, ℕ, take}
use Rattle.tup_core.specs.Waiting.{number, total}
use Rattle.tup_core.proofs.waiting.add_all.Given as goal

abbrev pub invariant-loop-at : goal.invariant-loop-at
invariant-loop-at l = (at : ℕ) → number l.counts at ≡ total (take l.at l.lists) at
