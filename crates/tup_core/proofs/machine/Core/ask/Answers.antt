use Rattle.std.proofs.Common.{refl}
use Rattle.tup_core.specs.declared.event.CoreEvent.TheVariants.{Ask}
use Rattle.tup_core.proofs.StepLaws.{answer_memory, memory_was}
use Rattle.tup_core.proofs.machine.Core.ask.Goals as goal

pub returns-in_err-may_ask : goal.returns-in_err-may_ask
returns-in_err-may_ask c =
    answer_memory c.args.plan.now c.args.self.now c.args.self.now (Ask c.args.seat c.args.text.now c.args.answer) c.from_residual.result c.requires.core c.in_err-may_ask.ensures.asks
    refl (memory_was c.from_residual.result _ c.from_residual.ensures.1 c.in_err-may_ask.ensures.memory)

pub take_ask-requires-clause-may : goal.take_ask-requires-clause-may
take_ask-requires-clause-may c = c.in_ok-may_ask.ensures.ok.0 c.if-not-branch.false
