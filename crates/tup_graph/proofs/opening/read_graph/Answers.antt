use Rattle.std.specs.Map.Iter.{deref_pair}
use Rattle.std.proofs.lemmas.Map.Iter.{rest_more}
use Rattle.std.proofs.lemmas.Result.{err_from_is_err_and}
use Rattle.tup_table.specs.Slots.{standing}
use Rattle.tup_table.proofs.Kept.{slot_taken}
use Rattle.tup_graph.proofs.Printed.{all_late_printed}
use Rattle.tup_graph.proofs.PutLate.{one_loaded, load_refused}
use Rattle.tup_graph.proofs.opening.read_graph.Goals as goal

pub loop-key-preserved-in-Continue-branch-2 : goal.loop-key-preserved-in-Continue-branch-2
loop-key-preserved-in-Continue-branch-2 c =
    let took = c.in_ok-take.ensures.graph in
    record {
      loading =
          one_loaded c.args.entries.now (standing c.loop-key.key-iterator) (standing c.next.new.self) (c.in-Some.key.now, c.in-Some-slot.entry)
          c.loop-key.graph c.take.new.self c.loop-key.late c.take.new.late took.0 c.loop-key.invariant.loading
          (slot_taken c.loop-key.key-iterator c.next.new.self c.in-Some.key.now c.in-Some.slot.now c.in-Some-slot.entry
          (rest_more deref_pair c.loop-key.key-iterator c.next.new.self c.next.result (c.in-Some.key, c.in-Some.slot) c.in-Some.is c.next.ensures.steps) c.in-Some-slot.is) took.1 took.2;
      printed = c.in_ok-take.ensures.prints;
    }

pub take-requires : goal.take-requires
take-requires c = c.loop-key.invariant.printed

pub returns-in_err-take-clause-nodes : goal.returns-in_err-take-clause-nodes
returns-in_err-take-clause-nodes c =
    let p = err_from_is_err_and c.from_residual-in_err-take.result c.from_residual-in_err-take.ensures.1 in
    rw (p.1, p.2) (load_refused c.args.entries.now (standing c.loop-key.key-iterator) (standing c.next.new.self) (c.in-Some.key.now, c.in-Some-slot.entry)
    c.loop-key.graph c.loop-key.late c.loop-key.invariant.loading
    (slot_taken c.loop-key.key-iterator c.next.new.self c.in-Some.key.now c.in-Some.slot.now c.in-Some-slot.entry
    (rest_more deref_pair c.loop-key.key-iterator c.next.new.self c.next.result (c.in-Some.key, c.in-Some.slot) c.in-Some.is c.next.ensures.steps) c.in-Some-slot.is) c.in_err-take.field-0.0 c.in_err-take.ensures.graph)

pub returns-clause-prints : goal.returns-clause-prints
returns-clause-prints c =
    all_late_printed c.loop-key.graph c.put_late.new.self c.loop-key.prints c.loop-key.late c.in_ok-put_late.ensures.ok c.loop-key.invariant.printed
