use Rattle.std.proofs.Common.{arith}
use Rattle.std.specs.Map.Iter.{deref_pair}
use Rattle.std.proofs.lemmas.Map.Iter.{rest_more}
use Rattle.tup_table.proofs.Gathering.{size_first}
use Rattle.tup_table.proofs.gathered.size_taken.Goals as goal

pub loop-key-preserved : goal.loop-key-preserved
loop-key-preserved c =
    let left = c.loop-key.key-iterator in
    let rest = c.next.new.self in
    let first =
    size_first left rest c.in-Some.key.now c.in-Some.slot.now (rest_more deref_pair left rest c.next.result (c.in-Some.key, c.in-Some.slot) c.in-Some.is c.next.ensures.steps) in
    record {
      sum = omega (arith, c.in_ok-size.ensures.0, first, c.loop-key.invariant.sum);
      small = c.in_ok-size.ensures.1;
    }
