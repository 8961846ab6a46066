use Rattle.std.proofs.Common.{◌-◌, ◌∙◌, sym, get_or, refl, rules}
use Rattle.std.proofs.lemmas.List.{get_or-set_same}
use Rattle.tup_clean.proofs.Queueing.{still, released_ready, released_waiting}
use Rattle.tup_clean.proofs.queue.release.Goals as goal
use Rattle.tup_clean.proofs.queue.release.Goals.{then-waits-reader-eq0+in_ok-insert, else-waits-reader-eq0}

pub bounds-waits-reader : goal.bounds-waits-reader
bounds-waits-reader c = (still c.args.readers.now c.args.waits.now c.args.ready.now c.requires c.loop-reader.reader-index c.loop-reader-test.true c.loop-reader.waits c.loop-reader.ready c.loop-reader.invariant).within

pub bounds-waits-reader-in-loop-reader : goal.bounds-waits-reader-in-loop-reader
bounds-waits-reader-in-loop-reader c = (still c.args.readers.now c.args.waits.now c.args.ready.now c.requires c.loop-reader.reader-index c.loop-reader-test.true c.loop-reader.waits c.loop-reader.ready c.loop-reader.invariant).within

pub overflow_sub-waits : goal.overflow_sub-waits
overflow_sub-waits c = (still c.args.readers.now c.args.waits.now c.args.ready.now c.requires c.loop-reader.reader-index c.loop-reader-test.true c.loop-reader.waits c.loop-reader.ready c.loop-reader.invariant).some

pub bounds-waits-reader-in-loop-reader-2 : goal.bounds-waits-reader-in-loop-reader-2
bounds-waits-reader-in-loop-reader-2 c =
    let is = still c.args.readers.now c.args.waits.now c.args.ready.now c.requires c.loop-reader.reader-index c.loop-reader-test.true c.loop-reader.waits c.loop-reader.ready c.loop-reader.invariant in
    search (rules, is.within)

pub offset_bounds-waits-reader : goal.offset_bounds-waits-reader
offset_bounds-waits-reader c =
    let is = still c.args.readers.now c.args.waits.now c.args.ready.now c.requires c.loop-reader.reader-index c.loop-reader-test.true c.loop-reader.waits c.loop-reader.ready c.loop-reader.invariant in
    search (rules, is.within)

pub offset_bounds-waits-reader-in-loop-reader : goal.offset_bounds-waits-reader-in-loop-reader
offset_bounds-waits-reader-in-loop-reader c =
    let is = still c.args.readers.now c.args.waits.now c.args.ready.now c.requires c.loop-reader.reader-index c.loop-reader-test.true c.loop-reader.waits c.loop-reader.ready c.loop-reader.invariant in
    search (rules, is.within)

pub loop-reader-preserved : goal.loop-reader-preserved
loop-reader-preserved c =
    let is = still c.args.readers.now c.args.waits.now c.args.ready.now c.requires c.loop-reader.reader-index c.loop-reader-test.true c.loop-reader.waits c.loop-reader.ready c.loop-reader.invariant in
    let r = get_or c.args.readers.now c.loop-reader.reader-index 0 in
    let after = get_or-set_same c.loop-reader.waits r (get_or c.loop-reader.waits r 0 - 1) 0 is.within in
    elim c.if-waits-reader-eq0.branch [
      | then-waits-reader-eq0+in_ok-insert w ↦
          rw w.ready-is (released_ready c.args.readers.now c.args.waits.now c.args.ready.now c.requires c.loop-reader.reader-index c.loop-reader-test.true c.loop-reader.waits _ c.loop-reader.ready c.loop-reader.invariant refl w.insert.new.self (sym after ∙ w.if-waits-reader-eq0.true) w.in_ok-insert.ensures.updates.0)
      | else-waits-reader-eq0 w ↦
          rw w.ready-is (released_waiting c.args.readers.now c.args.waits.now c.args.ready.now c.requires c.loop-reader.reader-index c.loop-reader-test.true c.loop-reader.waits _ c.loop-reader.ready c.loop-reader.invariant refl (λ none. w.if-waits-reader-eq0.false (after ∙ none)))
    ]
