use Rattle.std.proofs.Common.{◌≤◌, ℕ, List, Bool, drop}
use Rattle.tup_core.specs.Waiting.{number, AreCounts}
use Rattle.tup_core.proofs.waiting.take_all.Given as goal

abbrev pub invariant-loop-place : goal.invariant-loop-place
invariant-loop-place l = record {
  fewer : (at : ℕ) → number l.waits at ≤ number l.fn.waits at;
  counted : (pending : List Bool) → AreCounts l.lists l.reached pending l.places l.fn.waits → AreCounts l.lists l.reached pending (drop l.place-index l.places) l.waits;
}
