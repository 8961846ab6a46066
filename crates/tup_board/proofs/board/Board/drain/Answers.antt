use Rattle.std.proofs.Common.{refl, sym, ap, ◌∙◌, subst}
use Rattle.std.specs.Prelude.{slice_get}
use Rattle.tup_core.specs.declared.plan.Plan.{Plan}
use Rattle.tup_core.specs.Sound.{IsAcyclic}
use Rattle.tup_board.specs.declared.answers.Drained.{Drained}
use Rattle.tup_board.specs.Board.{state}
use Rattle.tup_board.specs.Calls.{Drains, RanAll, TakesFirst}
use Rattle.tup_board.proofs.Draining.{builds_clean, drained_none, drained_there, gives_none, goes_further, idle_there, is_smaller, none_pending, order_as, over_there, plan_there, ran_as, run_cause, starts_there, stays_steady, steady_there}
use Rattle.tup_board.proofs.board.Board.drain.Goals as goal

pub rules-init : goal.rules-init
rules-init g c = (drained_none g.R.Runner.tells_ran c.args.self.now (g.R.Runner.ran c.args.runner.now) (g.R.Runner.faults c.args.runner.now) c.requires.none_runs, λ _. refl, λ _. (refl, refl))

pub claim-requires-clause-plan : goal.claim-requires-clause-plan
claim-requires-clause-plan g c = c.requires.plan ∙ sym (ap (λ o. o.plan) c.rules.invariant.0.opening)

pub claim-requires-clause-free : goal.claim-requires-clause-free
claim-requires-clause-free g c = c.rules.invariant.0.none_runs 0

pub run-requires-clause-plan : goal.run-requires-clause-plan
run-requires-clause-plan g c = c.requires.plan ∙ sym (plan_there g.S.Site g.R.Runner g.R.Runner.tells_ran c.args.self.now c.rules.self c.claim.new.self (g.R.Runner.ran c.args.runner.now) (g.R.Runner.ran c.rules.runner) (g.R.Runner.faults c.args.runner.now) (g.R.Runner.faults c.rules.runner) c.rules.invariant.0 c.claim.result c.claim.ensures.claims c.claim.ensures.rest)

pub run-requires-clause-starts : goal.run-requires-clause-starts
run-requires-clause-starts g c = starts_there g.S.Site g.R.Runner g.R.Runner.tells_ran c.args.self.now c.rules.self c.claim.new.self (g.R.Runner.ran c.args.runner.now) (g.R.Runner.ran c.rules.runner) (g.R.Runner.faults c.args.runner.now) (g.R.Runner.faults c.rules.runner) c.rules.invariant.0 c.claim.result c.claim.ensures.claims c.claim.ensures.rest c.in-Rule.rule c.in-Rule.is

pub rules-preserved : goal.rules-preserved
rules-preserved g c = (
  goes_further g.S.Site g.R.Runner g.R.Runner.tells_ran c.args.self.now c.rules.self c.claim.new.self (g.R.Runner.ran c.args.runner.now) (g.R.Runner.ran c.rules.runner) (g.R.Runner.faults c.args.runner.now) (g.R.Runner.faults c.rules.runner) c.rules.invariant.0 c.claim.result c.claim.ensures.claims c.claim.ensures.rest c.in-Rule.rule c.in-Rule.is c.run.new.self (g.R.Runner.ran c.run.new.runner) (g.R.Runner.faults c.run.new.runner) c.run.ensures.one
      (λ tells it placed. c.run.ensures.ran tells it (ap (λ (p : Plan). slice_get p.rules c.in-Rule.rule) (c.requires.plan ∙ sym (plan_there g.S.Site g.R.Runner g.R.Runner.tells_ran c.args.self.now c.rules.self c.claim.new.self (g.R.Runner.ran c.args.runner.now) (g.R.Runner.ran c.rules.runner) (g.R.Runner.faults c.args.runner.now) (g.R.Runner.faults c.rules.runner) c.rules.invariant.0 c.claim.result c.claim.ensures.claims c.claim.ensures.rest)) ∙ placed)) c.run.ensures.cause,
  stays_steady g.S.Site c.args.self.now c.rules.self c.claim.new.self c.run.new.self c.in-Rule.rule c.claim.result c.rules.invariant.1 c.claim.ensures.claims c.in-Rule.is c.claim.ensures.rest
      (starts_there g.S.Site g.R.Runner g.R.Runner.tells_ran c.args.self.now c.rules.self c.claim.new.self (g.R.Runner.ran c.args.runner.now) (g.R.Runner.ran c.rules.runner) (g.R.Runner.faults c.args.runner.now) (g.R.Runner.faults c.rules.runner) c.rules.invariant.0 c.claim.result c.claim.ensures.claims c.claim.ensures.rest c.in-Rule.rule c.in-Rule.is) c.run.ensures.steady,
  λ over. absurd (gives_none g.S.Site g.R.Runner g.R.Runner.tells_ran c.args.self.now c.rules.self c.claim.new.self (g.R.Runner.ran c.args.runner.now) (g.R.Runner.ran c.rules.runner) (g.R.Runner.faults c.args.runner.now) (g.R.Runner.faults c.rules.runner) c.rules.invariant.0 c.claim.result c.claim.ensures.claims c.claim.ensures.rest c.in-Rule.rule c.in-Rule.is (c.rules.invariant.2 over).0 over),
)

pub rules-smaller : goal.rules-smaller
rules-smaller g c = is_smaller g.S.Site g.R.Runner g.R.Runner.tells_ran c.args.self.now c.rules.self c.claim.new.self (g.R.Runner.ran c.args.runner.now) (g.R.Runner.ran c.rules.runner) (g.R.Runner.faults c.args.runner.now) (g.R.Runner.faults c.rules.runner) c.rules.invariant.0 c.claim.result c.claim.ensures.claims c.claim.ensures.rest c.in-Rule.rule c.in-Rule.is c.history.ensures.keeps c.run.new.self c.run.ensures.one

pub returns-in-Over-clause-done : goal.returns-in-Over-clause-done
returns-in-Over-clause-done g c = λ acyclic is.
    none_pending g.S.Site g.R.Runner c.claim.new.self c.history-in-Over.ensures.keeps (over_there g.S.Site g.R.Runner g.R.Runner.tells_ran c.args.self.now c.rules.self c.claim.new.self (g.R.Runner.ran c.args.runner.now) (g.R.Runner.ran c.rules.runner) (g.R.Runner.faults c.args.runner.now) (g.R.Runner.faults c.rules.runner) c.rules.invariant.0 c.claim.result c.claim.ensures.claims c.claim.ensures.rest c.in-Over.is) (subst (λ (r : Drained). Drains (state c.claim.new.self) r) is c.drained.ensures)
    (subst (λ (p : Plan). IsAcyclic p.rules) (c.requires.plan ∙ sym (plan_there g.S.Site g.R.Runner g.R.Runner.tells_ran c.args.self.now c.rules.self c.claim.new.self (g.R.Runner.ran c.args.runner.now) (g.R.Runner.ran c.rules.runner) (g.R.Runner.faults c.args.runner.now) (g.R.Runner.faults c.rules.runner) c.rules.invariant.0 c.claim.result c.claim.ensures.claims c.claim.ensures.rest)) acyclic)

pub returns-in-Over-clause-clean : goal.returns-in-Over-clause-clean
returns-in-Over-clause-clean g c = λ told tells is kept tree.
    builds_clean g.S.Site g.R.Runner c.claim.new.self c.history-in-Over.ensures.keeps (over_there g.S.Site g.R.Runner g.R.Runner.tells_ran c.args.self.now c.rules.self c.claim.new.self (g.R.Runner.ran c.args.runner.now) (g.R.Runner.ran c.rules.runner) (g.R.Runner.faults c.args.runner.now) (g.R.Runner.faults c.rules.runner) c.rules.invariant.0 c.claim.result c.claim.ensures.claims c.claim.ensures.rest c.in-Over.is) (subst (λ (r : Drained). Drains (state c.claim.new.self) r) is c.drained.ensures) told tells kept tree

pub returns-in-Over-clause-over : goal.returns-in-Over-clause-over
returns-in-Over-clause-over g c = over_there g.S.Site g.R.Runner g.R.Runner.tells_ran c.args.self.now c.rules.self c.claim.new.self (g.R.Runner.ran c.args.runner.now) (g.R.Runner.ran c.rules.runner) (g.R.Runner.faults c.args.runner.now) (g.R.Runner.faults c.rules.runner) c.rules.invariant.0 c.claim.result c.claim.ensures.claims c.claim.ensures.rest c.in-Over.is

pub returns-in-Over-clause-ran : goal.returns-in-Over-clause-ran
returns-in-Over-clause-ran g c = λ events adds tells.
    subst (λ (p : Plan). RanAll p events (g.R.Runner.ran c.args.runner.now) (g.R.Runner.ran c.rules.runner) c.drained.result) (sym c.requires.plan)
    (ran_as g.R.Runner.tells_ran c.args.self.now c.claim.new.self (g.R.Runner.ran c.args.runner.now) (g.R.Runner.ran c.rules.runner) (g.R.Runner.faults c.args.runner.now) (g.R.Runner.faults c.rules.runner)
    (drained_there g.S.Site g.R.Runner g.R.Runner.tells_ran c.args.self.now c.rules.self c.claim.new.self (g.R.Runner.ran c.args.runner.now) (g.R.Runner.ran c.rules.runner) (g.R.Runner.faults c.args.runner.now) (g.R.Runner.faults c.rules.runner) c.rules.invariant.0 c.claim.result c.claim.ensures.claims c.claim.ensures.rest c.in-Over.is) c.drained.result c.drained.ensures events adds tells)

pub returns-in-Over-clause-order : goal.returns-in-Over-clause-order
returns-in-Over-clause-order g c = λ events adds.
    subst (λ (p : Plan). TakesFirst p (state c.args.self.now) events) (sym c.requires.plan)
    (order_as g.R.Runner.tells_ran c.args.self.now c.claim.new.self (g.R.Runner.ran c.args.runner.now) (g.R.Runner.ran c.rules.runner) (g.R.Runner.faults c.args.runner.now) (g.R.Runner.faults c.rules.runner)
    (drained_there g.S.Site g.R.Runner g.R.Runner.tells_ran c.args.self.now c.rules.self c.claim.new.self (g.R.Runner.ran c.args.runner.now) (g.R.Runner.ran c.rules.runner) (g.R.Runner.faults c.args.runner.now) (g.R.Runner.faults c.rules.runner) c.rules.invariant.0 c.claim.result c.claim.ensures.claims c.claim.ensures.rest c.in-Over.is) events adds)

pub returns-in-Over-clause-cause : goal.returns-in-Over-clause-cause
returns-in-Over-clause-cause g c =
    run_cause g.R.Runner.tells_ran c.args.self.now c.claim.new.self (g.R.Runner.ran c.args.runner.now) (g.R.Runner.ran c.rules.runner) (g.R.Runner.faults c.args.runner.now) (g.R.Runner.faults c.rules.runner)
    (drained_there g.S.Site g.R.Runner g.R.Runner.tells_ran c.args.self.now c.rules.self c.claim.new.self (g.R.Runner.ran c.args.runner.now) (g.R.Runner.ran c.rules.runner) (g.R.Runner.faults c.args.runner.now) (g.R.Runner.faults c.rules.runner) c.rules.invariant.0 c.claim.result c.claim.ensures.claims c.claim.ensures.rest c.in-Over.is) c.drained.result c.drained.ensures

pub returns-in-Over-clause-steady : goal.returns-in-Over-clause-steady
returns-in-Over-clause-steady g c = steady_there g.S.Site g.R.Runner g.R.Runner.tells_ran c.args.self.now c.rules.self c.claim.new.self (g.R.Runner.ran c.args.runner.now) (g.R.Runner.ran c.rules.runner) (g.R.Runner.faults c.args.runner.now) (g.R.Runner.faults c.rules.runner) c.rules.invariant.0 c.claim.result c.claim.ensures.claims c.claim.ensures.rest c.in-Over.is c.rules.invariant.1

pub returns-in-Over-clause-opening : goal.returns-in-Over-clause-opening
returns-in-Over-clause-opening g c = (drained_there g.S.Site g.R.Runner g.R.Runner.tells_ran c.args.self.now c.rules.self c.claim.new.self (g.R.Runner.ran c.args.runner.now) (g.R.Runner.ran c.rules.runner) (g.R.Runner.faults c.args.runner.now) (g.R.Runner.faults c.rules.runner) c.rules.invariant.0 c.claim.result c.claim.ensures.claims c.claim.ensures.rest c.in-Over.is).opening

pub returns-in-Over-clause-history : goal.returns-in-Over-clause-history
returns-in-Over-clause-history g c = let it = drained_there g.S.Site g.R.Runner g.R.Runner.tells_ran c.args.self.now c.rules.self c.claim.new.self (g.R.Runner.ran c.args.runner.now) (g.R.Runner.ran c.rules.runner) (g.R.Runner.faults c.args.runner.now) (g.R.Runner.faults c.rules.runner) c.rules.invariant.0 c.claim.result c.claim.ensures.claims c.claim.ensures.rest c.in-Over.is in (it.events, it.adds, it.own)

pub returns-in-Over-clause-idle : goal.returns-in-Over-clause-idle
returns-in-Over-clause-idle g c = idle_there g.S.Site g.R.Runner g.R.Runner.tells_ran c.args.self.now c.rules.self c.claim.new.self (g.R.Runner.ran c.args.runner.now) (g.R.Runner.ran c.rules.runner) (g.R.Runner.faults c.args.runner.now) (g.R.Runner.faults c.rules.runner) c.rules.invariant.0 c.claim.result c.claim.ensures.claims c.claim.ensures.rest c.in-Over.is c.args.runner.now c.rules.runner c.rules.invariant.2
