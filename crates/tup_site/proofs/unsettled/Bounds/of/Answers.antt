use Rattle.std.proofs.Common.{subst, sym, arith, take}
use Rattle.tup_site.specs.State.{State}
use Rattle.tup_site.specs.Bounds.{IsBounds}
use Rattle.tup_site.specs.History.{at_first, after_all}
use Rattle.tup_site.proofs.Crashing.{after_next}
use Rattle.tup_site.proofs.unsettled.Bounds.of.Goals as goal

pub loop-change-preserved : goal.loop-change-preserved
loop-change-preserved c files =
    subst (λ (s : State). IsBounds s c.after-bounds.result)
    (sym (after_next (at_first files) c.args.changes.now c.loop-change.change-index c.change-item.result (omega arith) c.change-item.is))
    (c.after-bounds.ensures (after_all (at_first files) (take c.loop-change.change-index c.args.changes.now)) (c.loop-change.invariant files))
