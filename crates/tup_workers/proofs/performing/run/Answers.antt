use Rattle.std.proofs.Common.{◌≡◌, ◌∷◌, [], ◌++◌, true, refl, sym, ap, ◌∙◌, subst, inl, inr, ⊎_elim, arith}
use Rattle.std.specs.Prelude.{None, Err}
use Rattle.std.proofs.lemmas.List.{append-nil}
use Rattle.std.proofs.lemmas.List.Elements.{All-cons, All-nil}
use Rattle.tup_runner.specs.Run.{Appends, CountsFaults}
use Rattle.tup_runner.specs.declared.fault.RunFailed.TheVariants as by_run
use Rattle.tup_core.specs.declared.event.Cause.TheVariants as causes
use Rattle.tup_core.specs.declared.event.CoreEvent.TheVariants.{Finish, Stop}
use Rattle.tup_board.specs.Calls.{command_of}
use Rattle.tup_board.specs.Entries.{runs_after}
use Rattle.tup_workers.specs.Told.{NeverRun}
use Rattle.tup_workers.proofs.Running.{runs_failed, runs_well}
use Rattle.tup_workers.proofs.Seeing.{runs_both}
use Rattle.tup_workers.proofs.performing.run.Goals as goal

pub returns-in-Ok-clause-runs : goal.returns-in-Ok-clause-runs
returns-in-Ok-clause-runs g c =
    let runner = g.L.Runner.Runner in
    let was = c.args.hand.now in
    let now = c.performed.new.runner in
    let did = c.performed.ensures.performs in
    let ends = c.ended.ensures.ends in
    runs_well runner c.args.plan.now c.args.rule (g.L.Shared.number_of was.seat) (g.L.Shared.entries was.seat) (g.L.Shared.entries c.performed.new.seat) (g.L.Shared.entries c.ended.new.seat) did.added ends.added was.runner now did.adds ends.adds did.none_claimed ends.none_claimed did.never_run
    ends.free ends.never_run c.ended.result (λ tells it placed. inl (subst (Appends (command_of it) (runner.ran was.runner) (runner.ran now)) c.in-Ok.is (c.performed.ensures.ran tells it placed)))
    (subst (CountsFaults (runner.faults was.runner) (runner.faults now)) c.in-Ok.is c.performed.ensures.cause)

-- ---- its last ask was denied
pub finish_denied-requires-clause-denied : goal.finish_denied-requires-clause-denied
finish_denied-requires-clause-denied g c =
    let is : c.performed.result ≡ Err by_run.Denied = grind arith in
    c.performed.ensures.performs.denied is

pub finish_denied-requires-clause-means : goal.finish_denied-requires-clause-means
finish_denied-requires-clause-means g c =
    let is : c.performed.result ≡ Err by_run.Denied = grind arith in
    λ denied told tell. c.performed.ensures.performs.means denied is told tell

pub returns-in-Err-Denied-clause-runs : goal.returns-in-Err-Denied-clause-runs
returns-in-Err-Denied-clause-runs g c =
    let is : c.performed.result ≡ Err by_run.Denied = grind arith in
    let runner = g.L.Runner.Runner in
    let was = c.args.hand.now in
    let now = c.performed.new.runner in
    let did = c.performed.ensures.performs in
    let mid = g.L.Shared.entries c.performed.new.seat in
    let denied = did.denied is in
    let end = Finish (g.L.Shared.number_of c.performed.new.seat) denied.verdict [] in
    let adds = c.finish_denied.ensures.adds denied in
    runs_well runner c.args.plan.now c.args.rule (g.L.Shared.number_of was.seat) (g.L.Shared.entries was.seat) mid (g.L.Shared.entries c.finish_denied.new.seat) did.added (end ∷ []) was.runner now did.adds adds did.none_claimed refl did.never_run
    (ap (runs_after None) adds ∙ runs_both None mid (end ∷ [])) (All-cons NeverRun end [] tt (All-nil NeverRun)) true
    (λ tells it placed. inl (subst (Appends (command_of it) (runner.ran was.runner) (runner.ran now)) is (c.performed.ensures.ran tells it placed)))
    (subst (CountsFaults (runner.faults was.runner) (runner.faults now)) is c.performed.ensures.cause)

-- ---- the files couldn't be reached
pub returns-in-Err-View-clause-runs : goal.returns-in-Err-View-clause-runs
returns-in-Err-View-clause-runs g c =
    let is : c.performed.result ≡ Err by_run.View = grind arith in
    let runner = g.L.Runner.Runner in
    let was = c.args.hand.now in
    let now = c.performed.new.runner in
    let did = c.performed.ensures.performs in
    let mid = g.L.Shared.entries c.performed.new.seat in
    runs_well runner c.args.plan.now c.args.rule (g.L.Shared.number_of was.seat) (g.L.Shared.entries was.seat) mid mid did.added [] was.runner now did.adds (sym (append-nil mid)) did.none_claimed refl did.never_run (did.view is) (All-nil NeverRun) true
    (λ tells it placed. inl (subst (Appends (command_of it) (runner.ran was.runner) (runner.ran now)) is (c.performed.ensures.ran tells it placed)))
    (subst (CountsFaults (runner.faults was.runner) (runner.faults now)) is c.performed.ensures.cause)

-- ---- its runner failed
pub stopped-requires-clause-runs : goal.stopped-requires-clause-runs
stopped-requires-clause-runs g c κs lives =
    let is : c.performed.result ≡ Err by_run.Fault = grind arith in
    c.performed.ensures.performs.going (λ e. let clash = sym is ∙ e in cc)

pub returns-in-Err-Fault-clause-runs : goal.returns-in-Err-Fault-clause-runs
returns-in-Err-Fault-clause-runs g c =
    let is : c.performed.result ≡ Err by_run.Fault = grind arith in
    let runner = g.L.Runner.Runner in
    let was = c.args.hand.now in
    let now = c.performed.new.runner in
    let did = c.performed.ensures.performs in
    let mid = g.L.Shared.entries c.performed.new.seat in
    let number = g.L.Shared.number_of was.seat in
    let adds = c.stopped.ensures.stops.1 ∙ ap (λ n. mid ++ Stop n causes.Run ∷ []) c.performed.ensures.number in
    runs_failed runner c.args.plan.now c.args.rule number (g.L.Shared.entries was.seat) mid (g.L.Shared.entries c.stopped.new.seat) did.added (Stop number causes.Run ∷ []) was.runner now did.adds adds did.none_claimed refl did.never_run refl c.stopped.result c.stopped.ensures.stops.0
    (λ tells it placed. subst (Appends (command_of it) (runner.ran was.runner) (runner.ran now)) is (c.performed.ensures.ran tells it placed))
    (subst (CountsFaults (runner.faults was.runner) (runner.faults now)) is c.performed.ensures.cause)

-- ---- there was no memory
pub stopped-requires-in-Err-Memory-clause-runs : goal.stopped-requires-in-Err-Memory-clause-runs
stopped-requires-in-Err-Memory-clause-runs g c κs lives =
    let is : c.performed.result ≡ Err by_run.Memory = grind arith in
    c.performed.ensures.performs.going (λ e. let clash = sym is ∙ e in cc)

pub returns-in-Err-Memory-clause-runs : goal.returns-in-Err-Memory-clause-runs
returns-in-Err-Memory-clause-runs g c =
    let is : c.performed.result ≡ Err by_run.Memory = grind arith in
    let runner = g.L.Runner.Runner in
    let was = c.args.hand.now in
    let now = c.performed.new.runner in
    let did = c.performed.ensures.performs in
    let mid = g.L.Shared.entries c.performed.new.seat in
    let number = g.L.Shared.number_of was.seat in
    let stop = c.stopped-in-Err-Memory in
    let adds = stop.ensures.stops.1 ∙ ap (λ n. mid ++ Stop n causes.Memory ∷ []) c.performed.ensures.number in
    runs_well runner c.args.plan.now c.args.rule number (g.L.Shared.entries was.seat) mid (g.L.Shared.entries stop.new.seat) did.added (Stop number causes.Memory ∷ []) was.runner now did.adds adds did.none_claimed refl did.never_run
    (ap (runs_after None) adds ∙ runs_both None mid (Stop number causes.Memory ∷ [])) (All-cons NeverRun (Stop number causes.Memory) [] tt (All-nil NeverRun)) stop.result
    (λ tells it placed. ⊎_elim (λ none. inr (stop.ensures.stops.0, none, (0, omega arith, refl))) inl (subst (Appends (command_of it) (runner.ran was.runner) (runner.ran now)) is (c.performed.ensures.ran tells it placed)))
    (subst (CountsFaults (runner.faults was.runner) (runner.faults now)) is c.performed.ensures.cause)
