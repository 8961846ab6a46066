use Rattle.std.proofs.Common.{◌<◌, None, Some, Ok, sym, ◌∙◌, subst, refl, arith}
use Rattle.std.specs.Prelude.{unwrap_or}
use Rattle.std.specs.Vec.{with_item}
use Rattle.std.proofs.lemmas.Bool.{true≢false}
use Rattle.tup_core.specs.declared.event.CoreEvent.TheVariants.{Stop}
use Rattle.tup_core.specs.declared.machine.Core.{Core}
use Rattle.tup_core.specs.Machine.{Answers}
use Rattle.tup_core.proofs.StepLaws.{stop_taken}
use Rattle.tup_core.proofs.machine.Core.stop.Goals as goal

pub returns : goal.returns
returns c =
    let within : c.args.seat < 16 = omega arith in
    subst (λ (core : Core). Answers {T = Unit {0}} c.args.plan.now c.args.self.now (Stop c.args.seat c.args.cause) (Ok tt) core) (sym c.stop_by.ensures)
    (stop_taken c.args.plan.now c.args.self.now (record c.args.self.now { seats = with_item c.args.self.now.seats c.args.seat None; stopped = Some (unwrap_or c.args.self.now.stopped c.args.cause) }) c.args.seat c.args.cause tt c.requires within
    (λ same. true≢false (sym (c.is_bad.ensures.1 same) ∙ c.if-is_bad.false)) refl refl)
