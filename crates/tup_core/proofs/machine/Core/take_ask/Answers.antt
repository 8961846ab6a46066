use Rattle.std.specs.Option.{option_map}
use Rattle.std.specs.Vec.{with_items}
use Rattle.tup_core.specs.declared.event.CoreEvent.TheVariants.{Ask}
use Rattle.tup_core.specs.Step.{asked}
use Rattle.tup_core.specs.Machine.{entry}
use Rattle.tup_core.proofs.StepLaws.{answer_memory, items_kept, items_written, memory_is, ask_taken}
use Rattle.tup_core.proofs.machine.Core.take_ask.Goals as goal

pub returns-in_err-ask_at : goal.returns-in_err-ask_at
returns-in_err-ask_at c =
    let can = c.requires.may in
    answer_memory c.args.plan.now c.args.self.now (record c.args.self.now { seats = with_items c.args.self.now.seats c.ask_at.new.seats }) (Ask c.args.seat c.args.text.now c.args.answer) c.from_residual.result c.requires.core (can.0, can.3.here, can.4)
    (items_kept c.args.self.now.seats c.ask_at.new.seats c.deref_mut.result.now c.in_err-ask_at.ensures.err c.deref_mut.ensures.value) (memory_is c.from_residual.result c.from_residual.ensures.1)

pub returns : goal.returns
returns c =
    ask_taken c.args.plan.now c.args.self.now (record c.args.self.now { seats = with_items c.args.self.now.seats c.ask_at.new.seats }) c.args.seat c.args.text.now c.args.answer tt c.requires.core c.requires.may
    (items_written c.args.self.now.seats c.ask_at.new.seats c.deref_mut.result.now c.args.seat (λ l. option_map (asked c.args.text.now c.args.answer) (entry l c.args.seat)) c.deref_mut.ensures.value c.in_ok-ask_at.ensures.ok)
