use Rattle.std.proofs.Common.{Some, ap, refl, true}
use Rattle.std.specs.Prelude.{slice_set}
use Rattle.std.specs.Vec.{with_item}
use Rattle.tup_core.specs.declared.running.Running.{Running}
use Rattle.tup_core.proofs.StepLaws.{claim_taken}
use Rattle.tup_core.proofs.machine.Core.claim.Goals as goal

pub returns : goal.returns
returns c =
    claim_taken c.args.plan.now c.args.self.now (record c.args.self.now { claimed = with_item c.args.self.now.claimed c.args.rule true; seats = with_item c.args.self.now.seats c.args.seat (Some c.new.result) }) c.args.seat c.args.rule tt c.requires
    (c.is_free.ensures.0 c.if-not-is_free.false) (c.ready.ensures.0 c.if-not-ready.false) refl (ap (λ (r : Running). slice_set c.args.self.now.seats.items c.args.seat (Some r)) c.new.ensures)
