use Rattle.std.proofs.Common.{Option, subst}
use Rattle.tup_path.specs.Name.{Names}
use Rattle.tup_readings.specs.State.{IsLast}
use Rattle.tup_readings.proofs.Working.{started, all_listed}
use Rattle.tup_readings.proofs.folders.all_read.Goals as goal

pub loop-work-init : goal.loop-work-init
loop-work-init c = started c.args.sources.now c.args.settings.now _ c.in_ok-work.ensures

pub advance-requires-clause-work : goal.advance-requires-clause-work
advance-requires-clause-work c = c.in_ok-dir.ensures.work c.args.sources.now c.args.settings.now c.loop-work.invariant

pub returns : goal.returns
returns c =
    let a = c.args in
    let next = c.in_ok-dir.ensures in
    all_listed a.sources.now a.settings.now c.next.new.self c.in_ok-into_items.field-0 (next.work a.sources.now a.settings.now c.loop-work.invariant)
    (subst (λ (dir : Option Names). IsLast dir c.next.new.self) c.in_default.is next.last) c.in_ok-into_items.ensures
