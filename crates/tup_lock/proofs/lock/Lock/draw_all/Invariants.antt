use Rattle.std.proofs.Common.{◌≡◌, ◌<◌, ◌≤◌, ◌+◌, length}
use Rattle.std.specs.Prelude.{All}
use Rattle.std.specs.Vec.{vec_capacity}
use Rattle.tup_lock.specs.Seats.{AreDrawn}
use Rattle.tup_lock.proofs.lock.Lock.draw_all.Given as goal

abbrev pub invariant-loop-last : goal.invariant-loop-last
invariant-loop-last g l = record {
  drawn : AreDrawn l.self l.first.value (length l.made.items) l.made.items;
  some : 0 < length l.made.items;
  lasts : All (λ one. one.value ≡ l.first.value) l.lasts.items;
  whole : length l.made.items + length l.lasts.items ≡ 1 + length l.fn.lasts.items;
  room : 1 + length l.fn.lasts.items ≤ vec_capacity l.made;
}

abbrev pub decreases-loop-last : goal.decreases-loop-last
decreases-loop-last g l = length l.lasts.items
