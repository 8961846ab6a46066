use Rattle.std.proofs.Common.{ap, sym, arith, ◌∙◌, take}
use Rattle.tup_site.specs.State.{State, is_among}
use Rattle.tup_site.specs.History.{at_first, after_all}
use Rattle.tup_site.proofs.Crashing.{after_next}
use Rattle.tup_site.proofs.unsettled.is_loose.Goals as goal

pub loop-change-preserved : goal.loop-change-preserved
loop-change-preserved c files =
    c.is_loose_after-is_so.ensures (after_all (at_first files) (take c.loop-change.change-index c.args.changes.now)) (c.loop-change.invariant files)
    ∙ ap (λ (s : State). is_among s.loose c.args.path.now) (sym (after_next (at_first files) c.args.changes.now c.loop-change.change-index c.change-item.result (omega arith) c.change-item.is))
