use Rattle.std.proofs.Common.{refl}
use Rattle.std.specs.Option.{option_map}
use Rattle.std.specs.Vec.{with_items}
use Rattle.tup_core.specs.declared.event.CoreEvent.TheVariants.{Deny}
use Rattle.tup_core.specs.Step.{refused}
use Rattle.tup_core.specs.Machine.{entry}
use Rattle.tup_core.proofs.StepLaws.{answer_memory, items_kept, items_written, memory_is, memory_was, deny_taken}
use Rattle.tup_core.proofs.machine.Core.deny.Goals as goal

pub returns-in_err-may_deny : goal.returns-in_err-may_deny
returns-in_err-may_deny c =
    answer_memory c.args.plan.now c.args.self.now c.args.self.now (Deny c.args.seat c.args.text.now c.args.verdict.now) c.from_residual.result c.requires c.in_err-may_deny.ensures.asks
    refl (memory_was c.from_residual.result _ c.from_residual.ensures.1 c.in_err-may_deny.ensures.memory)

pub returns-in_err-deny_at : goal.returns-in_err-deny_at
returns-in_err-deny_at c =
    let can = c.in_ok-may_deny.ensures.ok.0 c.if-not-branch.false in
    answer_memory c.args.plan.now c.args.self.now (record c.args.self.now { seats = with_items c.args.self.now.seats c.deny_at.new.seats }) (Deny c.args.seat c.args.text.now c.args.verdict.now) c.from_residual-in_err-deny_at.result c.requires (can.0, can.2.here, can.3)
    (items_kept c.args.self.now.seats c.deny_at.new.seats c.deref_mut.result.now c.in_err-deny_at.ensures.err c.deref_mut.ensures.value) (memory_is c.from_residual-in_err-deny_at.result c.from_residual-in_err-deny_at.ensures.1)

pub returns : goal.returns
returns c =
    deny_taken c.args.plan.now c.args.self.now (record c.args.self.now { seats = with_items c.args.self.now.seats c.deny_at.new.seats }) c.args.seat c.args.text.now c.args.verdict.now tt c.requires (c.in_ok-may_deny.ensures.ok.0 c.if-not-branch.false)
    (items_written c.args.self.now.seats c.deny_at.new.seats c.deref_mut.result.now c.args.seat (λ l. option_map (refused c.args.text.now c.args.verdict.now) (entry l c.args.seat)) c.deref_mut.ensures.value c.in_ok-deny_at.ensures.ok)
