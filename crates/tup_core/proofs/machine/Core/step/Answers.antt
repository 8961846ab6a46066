use Rattle.std.proofs.Common.{sym, subst}
use Rattle.tup_core.specs.declared.event.CoreEvent.{CoreEvent}
use Rattle.tup_core.specs.Machine.{Answers}
use Rattle.tup_core.proofs.AskLaws.{noted_answers}
use Rattle.tup_core.proofs.machine.Core.step.Goals as goal

pub returns-in-Ask : goal.returns-in-Ask
returns-in-Ask c =
    subst (λ (event : CoreEvent). Answers {T = Unit {0}} c.args.plan.now c.args.self.now event c.ask.result c.ask.new.self) (sym c.in-Ask.is)
    (noted_answers c.args.plan.now c.args.self.now c.note_ask.new.self c.ask.new.self _ c.ask.result c.note_ask.ensures.rest c.ask.ensures)
