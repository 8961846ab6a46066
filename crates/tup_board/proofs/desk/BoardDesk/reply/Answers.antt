use Rattle.std.proofs.Common.{sym, ◌∙◌, subst}
use Rattle.tup_core.specs.declared.plan.Plan.{Plan}
use Rattle.tup_core.specs.Step.{Runs}
use Rattle.tup_board.specs.Board.{state}
use Rattle.tup_board.proofs.desk.BoardDesk.reply.Goals as goal

pub answer-requires-clause-may : goal.answer-requires-clause-may
answer-requires-clause-may g c = λ it. sym (c.in_ok-path.ensures.given it) ∙ c.in-Yes.is

pub deny-requires-clause-denied : goal.deny-requires-clause-denied
deny-requires-clause-denied g c =
    let goes = c.access.ensures.goes in
    let it = goes.it in (
      it.running,
      it.rule,
      subst (λ (p : Plan). Runs p (state c.args.self.now) c.args.seat it.running it.rule) (sym c.requires.plan) it.runs,
      goes.granted,
      sym (c.in_ok-path.ensures.given it) ∙ c.in-No.is,
    )
