use Rattle.std.proofs.Common.{◌≡◌, ◌++◌, ℕ, suc, List, [], ◌∷◌, take, drop, append-nil, append_assoc, refl, sym, ap, subst, ◌∙◌}
use Rattle.std.proofs.lemmas.List.{take-append-drop, take_all, take_more}
use Rattle.tup_path.specs.Count.{Rose}
use Rattle.tup_tell.specs.declared.event.Event.{Event}
use Rattle.tup_tell.specs.declared.reporter.TellFailed.TheVariants.{Fault, Memory}
use Rattle.tup_tell.proofs.Parting.{around, failed_so, rose_of, steady_of}
use Rattle.tup_tell.proofs.telling.tell_one.Goals as goal

pub loop-event-init : goal.loop-event-init
loop-event-init g c = record { told = sym (append-nil (g.T.Reporter.told c.args.reporter.now)); steady = refl }

pub loop-event-preserved : goal.loop-event-preserved
loop-event-preserved g c =
    let events = c.args.events.now in
    let i = c.loop-event.event-index in
    let event = c.event-item.result in
    let first = g.T.Reporter.told c.args.reporter.now in
    record {
      told =
          c.in_ok-note.ensures.told
          ∙ ap (λ (l : List Event). l ++ event ∷ []) c.loop-event.invariant.told
          ∙ append_assoc first (take i events) (event ∷ [])
          ∙ ap (λ (l : List Event). first ++ l) (ap (λ (e : Event). take i events ++ e ∷ []) c.event-item.is ∙ sym (take_more events i event c.loop-event-test.true));
      steady = c.in_ok-note.ensures.cause ∙ c.loop-event.invariant.steady;
    }

pub returns-clause-told : goal.returns-clause-told
returns-clause-told g c =
    let first = g.T.Reporter.told c.args.reporter.now in (
      c.loop-event.invariant.told ∙ ap (λ (l : List Event). first ++ l) (take_all c.loop-event.event-index c.args.events.now c.loop-event-test.false),
      c.loop-event.invariant.steady,
    )

pub returns-in_err-note-clause-fault : goal.returns-in_err-note-clause-fault
returns-in_err-note-clause-fault g c = λ is.
    let events = c.args.events.now in
    let at = c.loop-event.event-index in
    let event = c.event-item.result in
    let why = failed_so Fault c.in_err-note.field-0.0 c.from_residual.result c.from_residual.ensures.1 is in
    let faults = g.T.Reporter.faults in
    let rose = rose_of (faults c.loop-event.reporter) (faults c.note.new.self) c.in_err-note.field-0.0 c.in_err-note.ensures.cause why in (
      take at events,
      drop (suc at) events,
      event,
      around events at event c.loop-event-test.true c.event-item.is,
      c.in_err-note.ensures.untold ∙ c.loop-event.invariant.told,
      subst (λ (n : ℕ). Rose n (faults c.note.new.self)) c.loop-event.invariant.steady rose,
    )

pub returns-in_err-note-clause-memory : goal.returns-in_err-note-clause-memory
returns-in_err-note-clause-memory g c = λ is.
    let events = c.args.events.now in
    let at = c.loop-event.event-index in
    let why = failed_so Memory c.in_err-note.field-0.0 c.from_residual.result c.from_residual.ensures.1 is in
    let faults = g.T.Reporter.faults in
    let steady = steady_of (faults c.loop-event.reporter) (faults c.note.new.self) c.in_err-note.field-0.0 c.in_err-note.ensures.cause why in
    (take at events, drop at events, take-append-drop at events, c.in_err-note.ensures.untold ∙ c.loop-event.invariant.told, steady ∙ c.loop-event.invariant.steady)
