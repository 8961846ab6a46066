use Rattle.std.proofs.Common.{◌+◌, drop, sym, subst, ◌∙◌}
use Rattle.std.proofs.lemmas.List.{drop_all}
use Rattle.tup_update.proofs.Stepping.{IsTakingSteps, all_steps, next_event, no_steps, none_taken, one_taken, room_for_one}
use Rattle.tup_update.proofs.steps.Steps.in_history.Goals.{in-Some, in_default}
use Rattle.tup_update.proofs.steps.Steps.in_history.Goals as goal

pub loop-event-init : goal.loop-event-init
loop-event-init c = no_steps c.args.history.now c.args.self c.requires.none c.requires.room

pub push_reserved-requires : goal.push_reserved-requires
push_reserved-requires c =
    let history = c.args.history.now in
    let k = c.loop-event.event-index in
    let event = c.event-item.result in
    room_for_one history (drop (k + 1) history) event c.loop-event.self (next_event history k event c.loop-event.self c.loop-event-test.true c.event-item.is c.loop-event.invariant) c.in-Some.step (sym c.step_of.ensures ∙ c.in-Some.is)

pub loop-event-preserved : goal.loop-event-preserved
loop-event-preserved c =
    let history = c.args.history.now in
    let k = c.loop-event.event-index in
    let event = c.event-item.result in
    let old = c.loop-event.self in
    let left = drop (k + 1) history in
    let next = next_event history k event old c.loop-event-test.true c.event-item.is c.loop-event.invariant in
    elim c.match-step_of.branch [
      | in-Some w ↦
          subst (IsTakingSteps history left) (sym w.self-is)
          (one_taken history left event old next w.in-Some.step (sym c.step_of.ensures ∙ w.in-Some.is) (record { taken = w.push_reserved.new.self }) w.push_reserved.ensures.items w.push_reserved.ensures.len w.push_reserved.ensures.capacity)
      | in_default w ↦ subst (IsTakingSteps history left) (sym w.self-is) (none_taken history left event old next (sym c.step_of.ensures ∙ w.in_default.is))
    ]

pub returns : goal.returns
returns c =
    let history = c.args.history.now in
    let k = c.loop-event.event-index in
    c.from_vec.ensures ∙ all_steps history (drop k history) c.loop-event.self (drop_all k history c.loop-event-test.false) c.loop-event.invariant
