use Rattle.std.proofs.Common.{◌≡◌, length, sym, ◌∙◌, subst}
use Rattle.tup_access.specs.Access.{access}
use Rattle.tup_access.specs.declared.verdict.Access.TheVariants.{Yes}
use Rattle.tup_core.specs.declared.plan.Plan.{Plan}
use Rattle.tup_board.proofs.Answering.{asks_for, asks_for_own, rule_seen}
use Rattle.tup_board.proofs.desk.BoardDesk.answer.Goals as goal

pub answer_own-requires-clause-own : goal.answer_own-requires-clause-own
answer_own-requires-clause-own g c =
    let it = c.requires.runs.it in
    let may = subst (λ (p : Plan). access p.rules it.rule (length it.running.asks) c.args.text.now ≡ Yes c.args.path.now) c.requires.plan (c.requires.may it) in
    asks_for_own c.args.self.now c.args.seat c.args.text.now it c.rule_run.result.now c.args.path.now (rule_seen g.S.Site g.R.Runner _ _ _ _ _ _ _ c.self.invariant.0 c.self.invariant.1 c.self.view_is c.args.seat c.rule_run.result.now c.rule_run.ensures) may (sym c.writes.ensures ∙ c.if-writes.true)

pub answer_other-requires-clause-asks_for : goal.answer_other-requires-clause-asks_for
answer_other-requires-clause-asks_for g c =
    let it = c.requires.runs.it in
    let may = subst (λ (p : Plan). access p.rules it.rule (length it.running.asks) c.args.text.now ≡ Yes c.args.path.now) c.requires.plan (c.requires.may it) in
    asks_for c.args.self.now c.args.seat c.args.text.now it c.rule_run.result.now c.args.path.now (rule_seen g.S.Site g.R.Runner _ _ _ _ _ _ _ c.self.invariant.0 c.self.invariant.1 c.self.view_is c.args.seat c.rule_run.result.now c.rule_run.ensures) may (sym c.writes.ensures ∙ c.if-writes.false)
