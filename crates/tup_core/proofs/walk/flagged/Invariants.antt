use Rattle.std.proofs.Common.{◌≡◌, ℕ, take}
use Rattle.std.specs.Prelude.{if◌then◌else◌}
use Rattle.tup_clean.specs.Queue.{count_of}
use Rattle.tup_core.specs.Waiting.{flag}
use Rattle.tup_core.proofs.walk.flagged.Given as goal

abbrev pub invariant-loop-place : goal.invariant-loop-place
invariant-loop-place l = (at : ℕ) → count_of at l.kept ≡ (if flag l.flags at then count_of at (take l.place-index l.places) else 0)
