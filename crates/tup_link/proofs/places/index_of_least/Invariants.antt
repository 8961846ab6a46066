use Rattle.std.proofs.Common.{ℕ, ◌<◌, ◌≤◌, length, get_or}
use Rattle.tup_link.proofs.places.index_of_least.Given as goal

abbrev pub invariant-loop-at : goal.invariant-loop-at
invariant-loop-at l = record {
  within : l.least < length l.places;
  least : (i : ℕ) → i < l.at → get_or l.places l.least 0 ≤ get_or l.places i 0;
}
