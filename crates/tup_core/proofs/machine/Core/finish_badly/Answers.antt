use Rattle.std.proofs.Common.{◌≡◌, List, Option, None, Some, Ok, ◌∙◌, ap, sym, subst, Bool}
use Rattle.std.specs.Prelude.{if◌then◌else◌, slice_set, unwrap_or}
use Rattle.std.specs.Vec.{with_item, with_items}
use Rattle.tup_access.specs.declared.verdict.Verdict.{Verdict}
use Rattle.tup_core.specs.declared.event.Cause.TheVariants.{Bad}
use Rattle.tup_core.specs.declared.event.CoreEvent.TheVariants.{Finish}
use Rattle.tup_core.specs.declared.running.Running.{Running}
use Rattle.tup_core.specs.declared.machine.Core.{Core}
use Rattle.tup_core.specs.Machine.{entry, state_of, Answers}
use Rattle.tup_core.proofs.StepLaws.{answer_memory, items_kept, items_written, memory_is, takes_bad, kept_given, finished_bad}
use Rattle.tup_core.proofs.machine.Core.finish_badly.Goals as goal

pub returns-in_err-self : goal.returns-in_err-self
returns-in_err-self c =
    let unkept = c.in_err-self.ensures.err.0 in
    answer_memory c.args.plan.now c.args.self.now (record c.args.self.now { seats = with_items c.args.self.now.seats c.ended_badly.new.seats }) (Finish c.args.seat c.args.verdict.now c.args.writes.now) c.from_residual.result c.requires.core
    (takes_bad (state_of c.args.self.now) c.args.seat c.args.verdict.now c.args.writes.now unkept.0 c.requires.bad (ap (λ (l : List (Option Running)). entry l c.args.seat) (sym c.deref_mut.ensures.value) ∙ unkept.1) unkept.2)
    (items_kept c.args.self.now.seats c.ended_badly.new.seats c.deref_mut.result.now c.in_err-self.ensures.err.1 c.deref_mut.ensures.value) (memory_is c.from_residual.result c.from_residual.ensures.1)

pub returns-then-plan : goal.returns-then-plan
returns-then-plan c =
    let given : c.in_ok-self.field-0 ≡ Some c.args.verdict.now =
    c.in_ok-self.ensures.verdict c.requires.ends.running (ap (λ (l : List (Option Running)). entry l c.args.seat) c.deref_mut.ensures.value ∙ c.requires.ends.runs.here)
    (kept_given c.requires.ends.rule c.requires.ends.running.denied c.args.verdict.now c.args.writes.now c.requires.ends.fits) in
    finished_bad c.args.plan.now c.args.self.now (record c.args.self.now { seats = with_items c.args.self.now.seats c.ended_badly.new.seats; bad = with_item c.args.self.now.bad c.args.at c.in_ok-self.field-0 }) c.args.seat c.args.at c.args.verdict.now
    c.args.writes.now tt c.requires.core c.requires.bad c.requires.ends (items_written c.args.self.now.seats c.ended_badly.new.seats c.deref_mut.result.now c.args.seat (λ l. None) c.deref_mut.ensures.value c.in_ok-self.ensures.seats)
    (ap (λ (v : Option Verdict). slice_set c.args.self.now.bad.items c.args.at v) given)
    (sym (ap (λ (b : Bool). if b then c.args.self.now.stopped else Some (unwrap_or c.args.self.now.stopped Bad)) c.if-plan.true))

pub returns : goal.returns
returns c =
    let given : c.in_ok-self.field-0 ≡ Some c.args.verdict.now =
    c.in_ok-self.ensures.verdict c.requires.ends.running (ap (λ (l : List (Option Running)). entry l c.args.seat) c.deref_mut.ensures.value ∙ c.requires.ends.runs.here)
    (kept_given c.requires.ends.rule c.requires.ends.running.denied c.args.verdict.now c.args.writes.now c.requires.ends.fits) in
    subst (λ (core : Core). Answers {T = Unit {0}} c.args.plan.now c.args.self.now (Finish c.args.seat c.args.verdict.now c.args.writes.now) (Ok tt) core) (sym c.stop_by.ensures)
    (finished_bad c.args.plan.now c.args.self.now
    (record c.args.self.now { seats = with_items c.args.self.now.seats c.ended_badly.new.seats; bad = with_item c.args.self.now.bad c.args.at c.in_ok-self.field-0; stopped = Some (unwrap_or c.args.self.now.stopped Bad) }) c.args.seat c.args.at
    c.args.verdict.now c.args.writes.now tt c.requires.core c.requires.bad c.requires.ends (items_written c.args.self.now.seats c.ended_badly.new.seats c.deref_mut.result.now c.args.seat (λ l. None) c.deref_mut.ensures.value c.in_ok-self.ensures.seats)
    (ap (λ (v : Option Verdict). slice_set c.args.self.now.bad.items c.args.at v) given)
    (sym (ap (λ (b : Bool). if b then c.args.self.now.stopped else Some (unwrap_or c.args.self.now.stopped Bad)) c.if-plan.false)))
