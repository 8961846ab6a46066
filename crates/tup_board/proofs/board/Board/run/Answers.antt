use Rattle.std.proofs.Common.{◌≡◌, Err, inl, inr, ⊎_elim, sym, ◌∙◌, subst, arith}
use Rattle.tup_runner.specs.Run.{Appends, CountsFaults as RunnerCounts}
use Rattle.tup_runner.specs.declared.fault.RunFailed.TheVariants as by_run
use Rattle.tup_core.specs.declared.event.Cause.TheVariants as causes
use Rattle.tup_board.specs.Calls.{command_of}
use Rattle.tup_board.proofs.Draining.{denied_left, failed_so, for_memory, never_failed, ran_and_left, ran_and_stopped, steady_both, steady_rest, stop_left}
use Rattle.tup_board.proofs.board.Board.run.Goals as goal

pub finish_denied-requires-clause-denied : goal.finish_denied-requires-clause-denied
finish_denied-requires-clause-denied g c =
    let is : c.performed.result ≡ Err by_run.Denied = grind arith in
    c.performed.ensures.performs.denied is

pub returns-in-Ok-clause-one : goal.returns-in-Ok-clause-one
returns-in-Ok-clause-one g c = ran_and_left c.args.self.now c.performed.new.board c.end.new.self c.args.rule c.requires.starts c.performed.ensures.performs.from c.end.ensures.left

pub returns-in-Err-Denied-clause-one : goal.returns-in-Err-Denied-clause-one
returns-in-Err-Denied-clause-one g c =
    let is : c.performed.result ≡ Err by_run.Denied = grind arith in
    let left = denied_left 0 c.performed.new.board c.finish_denied.new.self c.finish_denied.ensures.ends c.finish_denied.ensures.rest in
    ran_and_left c.args.self.now c.performed.new.board c.finish_denied.new.self c.args.rule c.requires.starts c.performed.ensures.performs.from left

pub returns-in-Err-Denied-clause-cause : goal.returns-in-Err-Denied-clause-cause
returns-in-Err-Denied-clause-cause g c =
    let is : c.performed.result ≡ Err by_run.Denied = grind arith in
    let left = denied_left 0 c.performed.new.board c.finish_denied.new.self c.finish_denied.ensures.ends c.finish_denied.ensures.rest in
    never_failed _ _ _ (subst (RunnerCounts (g.R.Runner.faults c.args.runner.now) (g.R.Runner.faults c.performed.new.runner)) is c.performed.ensures.cause) (left.never_run (c.performed.ensures.performs.going (λ e. let clash = sym is ∙ e in cc)))

pub returns-in-Err-Fault-clause-one : goal.returns-in-Err-Fault-clause-one
returns-in-Err-Fault-clause-one g c =
    let is : c.performed.result ≡ Err by_run.Fault = grind arith in
    let going = c.performed.ensures.performs.going (λ e. let clash = sym is ∙ e in cc) in
    let stopped = stop_left 0 c.performed.new.board c.stop.new.self causes.Run going c.stop.ensures.stops c.stop.ensures.rest in
    ran_and_stopped c.args.self.now c.performed.new.board c.stop.new.self c.args.rule c.requires.starts c.performed.ensures.performs.from causes.Run stopped

pub returns-in-Err-Fault-clause-cause : goal.returns-in-Err-Fault-clause-cause
returns-in-Err-Fault-clause-cause g c =
    let is : c.performed.result ≡ Err by_run.Fault = grind arith in
    let going = c.performed.ensures.performs.going (λ e. let clash = sym is ∙ e in cc) in
    let stopped = stop_left 0 c.performed.new.board c.stop.new.self causes.Run going c.stop.ensures.stops c.stop.ensures.rest in
    failed_so _ _ _ (subst (RunnerCounts (g.R.Runner.faults c.args.runner.now) (g.R.Runner.faults c.performed.new.runner)) is c.performed.ensures.cause) stopped.stops

pub returns-in-Err-Memory-clause-one : goal.returns-in-Err-Memory-clause-one
returns-in-Err-Memory-clause-one g c =
    let is : c.performed.result ≡ Err by_run.Memory = grind arith in
    let going = c.performed.ensures.performs.going (λ e. let clash = sym is ∙ e in cc) in
    let stopped = stop_left 0 c.performed.new.board c.stop-in-Err-Memory.new.self causes.Memory going c.stop-in-Err-Memory.ensures.stops c.stop-in-Err-Memory.ensures.rest in
    ran_and_stopped c.args.self.now c.performed.new.board c.stop-in-Err-Memory.new.self c.args.rule c.requires.starts c.performed.ensures.performs.from causes.Memory stopped

pub returns-in-Err-Memory-clause-ran : goal.returns-in-Err-Memory-clause-ran
returns-in-Err-Memory-clause-ran g c =
    let is : c.performed.result ≡ Err by_run.Memory = grind arith in
    let going = c.performed.ensures.performs.going (λ e. let clash = sym is ∙ e in cc) in
    let stopped = stop_left 0 c.performed.new.board c.stop-in-Err-Memory.new.self causes.Memory going c.stop-in-Err-Memory.ensures.stops c.stop-in-Err-Memory.ensures.rest in
    λ tells it placed. ⊎_elim (λ none. inr (none, stopped.stops)) inl (subst (Appends (command_of it) (g.R.Runner.ran c.args.runner.now) (g.R.Runner.ran c.performed.new.runner)) is (c.performed.ensures.ran tells it placed))

pub returns-in-Err-Memory-clause-cause : goal.returns-in-Err-Memory-clause-cause
returns-in-Err-Memory-clause-cause g c =
    let is : c.performed.result ≡ Err by_run.Memory = grind arith in
    let going = c.performed.ensures.performs.going (λ e. let clash = sym is ∙ e in cc) in
    let stopped = stop_left 0 c.performed.new.board c.stop-in-Err-Memory.new.self causes.Memory going c.stop-in-Err-Memory.ensures.stops c.stop-in-Err-Memory.ensures.rest in
    for_memory _ _ _ (subst (RunnerCounts (g.R.Runner.faults c.args.runner.now) (g.R.Runner.faults c.performed.new.runner)) is c.performed.ensures.cause) stopped.stops

pub returns-in-Ok-clause-steady : goal.returns-in-Ok-clause-steady
returns-in-Ok-clause-steady g c =
    steady_both g.S.Site c.args.self.now c.performed.new.board c.end.new.self c.performed.ensures.performs.steady (c.performed.ensures.performs.going (λ e. let clash = sym c.in-Ok.is ∙ e in cc)) c.end.ensures.steady

pub returns-in-Err-Denied-clause-steady : goal.returns-in-Err-Denied-clause-steady
returns-in-Err-Denied-clause-steady g c =
    let is : c.performed.result ≡ Err by_run.Denied = grind arith in
    steady_both g.S.Site c.args.self.now c.performed.new.board c.finish_denied.new.self c.performed.ensures.performs.steady (c.performed.ensures.performs.going (λ e. let clash = sym is ∙ e in cc))
    (steady_rest g.S.Site c.performed.new.board c.finish_denied.new.self c.finish_denied.ensures.rest)

pub returns-in-Err-Fault-clause-steady : goal.returns-in-Err-Fault-clause-steady
returns-in-Err-Fault-clause-steady g c =
    let is : c.performed.result ≡ Err by_run.Fault = grind arith in
    steady_both g.S.Site c.args.self.now c.performed.new.board c.stop.new.self c.performed.ensures.performs.steady (c.performed.ensures.performs.going (λ e. let clash = sym is ∙ e in cc))
    (steady_rest g.S.Site c.performed.new.board c.stop.new.self c.stop.ensures.rest)

pub returns-in-Err-Memory-clause-steady : goal.returns-in-Err-Memory-clause-steady
returns-in-Err-Memory-clause-steady g c =
    let is : c.performed.result ≡ Err by_run.Memory = grind arith in
    steady_both g.S.Site c.args.self.now c.performed.new.board c.stop-in-Err-Memory.new.self c.performed.ensures.performs.steady (c.performed.ensures.performs.going (λ e. let clash = sym is ∙ e in cc))
    (steady_rest g.S.Site c.performed.new.board c.stop-in-Err-Memory.new.self c.stop-in-Err-Memory.ensures.rest)
