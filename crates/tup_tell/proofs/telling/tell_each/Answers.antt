use Rattle.std.proofs.Common.{◌<◌, List, length, arith, subst, sym}
use Rattle.std.specs.List.{remove}
use Rattle.std.specs.Prelude.{slice_set}
use Rattle.tup_tell.proofs.Parting.{IsTelling, one_cuts_off, one_leaves, one_stays}
use Rattle.tup_tell.proofs.telling.tell_each.Goals as goal

-- a reporter was told all
pub loop-at-preserved-in-Ok : goal.loop-at-preserved-in-Ok
loop-at-preserved-in-Ok g c =
    let list = c.loop-at.reporters in
    let less : c.loop-at.at < length list.items = omega (arith, c.loop-at-test.true, c.len.ensures, list.ok.0) in
    record {
      telling =
          one_stays g.T.Reporter.told g.T.Reporter.faults c.args.events.now c.args.reporters.now.items list.items c.loop-at.failed.items c.loop-at.at c.loop-at.invariant.telling less c.index_mut.result.now c.tell_one.new.reporter
          c.index_mut.ensures.value c.in-Ok.ensures.told;
      room = omega (arith, c.loop-at.invariant.room);
    }

-- it failed
pub loop-at-preserved : goal.loop-at-preserved
loop-at-preserved g c =
    let list = c.loop-at.reporters in
    let at = c.loop-at.at in
    let old = c.args.reporters.now.items in
    let told = g.T.Reporter.told in
    let faults = g.T.Reporter.faults in
    let events = c.args.events.now in
    let less : at < length list.items = omega (arith, c.loop-at-test.true, c.len.ensures, list.ok.0) in
    let gone = remove (slice_set list.items at c.tell_one.new.reporter) at in
    record {
      telling =
          subst (λ (l : List g.row.T.Denot). IsTelling told faults events old l c.push_reserved.new.self.items at) (sym c.remove.ensures.items)
          (subst (λ (l : List g.row.T.Denot). IsTelling told faults events old gone l at) (sym c.push_reserved.ensures.items)
          (one_leaves told faults events old list.items c.loop-at.failed.items at c.loop-at.invariant.telling less c.index_mut.result.now c.tell_one.new.reporter c.index_mut.ensures.value
          (c.in-Err-Fault.ensures.fault (cc c.in-Err-Fault.field-0-is)) c.remove.result c.remove.ensures.value));
      room = omega (arith, c.push_reserved.ensures.len, c.push_reserved.ensures.capacity, c.remove.ensures.len, c.loop-at.invariant.room, c.loop-at-test.true, c.len.ensures);
    }

-- there was no memory
pub returns-in-Err-Memory-clause-cut_off : goal.returns-in-Err-Memory-clause-cut_off
returns-in-Err-Memory-clause-cut_off g c = λ _.
    let list = c.loop-at.reporters in
    let less : c.loop-at.at < length list.items = omega (arith, c.loop-at-test.true, c.len.ensures, list.ok.0) in
    one_cuts_off g.T.Reporter.told g.T.Reporter.faults c.args.events.now c.args.reporters.now.items list.items c.loop-at.failed.items c.loop-at.at c.loop-at.invariant.telling less c.index_mut.result.now c.tell_one.new.reporter
    c.index_mut.ensures.value (c.in-Err-Memory.ensures.memory (cc c.in-Err-Memory.field-0-is))
