use Rattle.std.proofs.Common.{subst}
use Rattle.std.specs.Map.Iter.{deref_pair}
use Rattle.std.proofs.lemmas.Map.Iter.{rest_more}
use Rattle.tup_table.specs.Compact.{EntriesFit}
use Rattle.tup_table.specs.Slots.{standing}
use Rattle.tup_table.proofs.Kept.{slot_taken}
use Rattle.tup_table.proofs.Snapshots.{one_put}
use Rattle.tup_table.proofs.compacting.push_entries.Goals as goal

pub push_entry-requires : goal.push_entry-requires
push_entry-requires c =
    let first =
    slot_taken c.loop-key.key-iterator c.next.new.self c.in-Some.key.now c.in-Some.slot.now c.in-Some-slot.entry
    (rest_more deref_pair c.loop-key.key-iterator c.next.new.self c.next.result (c.in-Some.key, c.in-Some.slot) c.in-Some.is c.next.ensures.steps) c.in-Some-slot.is in
    (subst EntriesFit first c.loop-key.invariant.fit).0

pub loop-key-preserved-in-Continue-1 : goal.loop-key-preserved-in-Continue-1
loop-key-preserved-in-Continue-1 c =
    let left = c.loop-key.key-iterator in
    let rest = c.next.new.self in
    let first =
    slot_taken left rest c.in-Some.key.now c.in-Some.slot.now c.in-Some-slot.entry (rest_more deref_pair left rest c.next.result (c.in-Some.key, c.in-Some.slot) c.in-Some.is c.next.ensures.steps) c.in-Some-slot.is in
    record {
      written = one_put c.loop-key.bytes.items c.push_entry.new.bytes.items _ (standing left) (standing rest) c.in-Some.key.now c.in-Some-slot.entry first c.in_ok-push_entry.ensures c.loop-key.invariant.written;
      fit = (subst EntriesFit first c.loop-key.invariant.fit).1;
    }
