use Rattle.std.proofs.Common.{◌≡◌, ◌≤◌, ◌+◌, true, List, [], length, map, Some, All, refl, ap, sym, subst, arith, ◌∙◌}
use Rattle.std.specs.Prelude.{vec_capacity, vec_len}
use Rattle.std.specs.Bool.{nat_eq}
use Rattle.std.specs.List.{IsDistinct}
use Rattle.std.specs.Option.{IfSome, is_some}
use Rattle.tup_core.specs.declared.event.CoreEvent.{CoreEvent}
use Rattle.tup_core.specs.Run.{claims}
use Rattle.tup_promise.specs.declared.log.EndedRule.{EndedRule}
use Rattle.tup_update.specs.Ended.{TellsFor, ends, numbers, told_ends}
use Rattle.tup_update.specs.Names.{IsReadyFor, value_at}
use Rattle.tup_update.specs.Run.{OfBads, StopsBy}
use Rattle.tup_update.specs.Steps.{steps_of}
use Rattle.tup_update.proofs.Chained.{ready_for, say_why_ended}
use Rattle.tup_update.proofs.Commands.{all_named, all_some, have_names, ran_commands}
use Rattle.tup_update.proofs.Interleaving.{steps_fit}
use Rattle.tup_update.proofs.Logging.{ended_once, tells_front}
use Rattle.tup_update.proofs.Telling.{names_alike}
use Rattle.tup_update.proofs.run.told.Goals as goal

pub claimed-requires-clause-room : goal.claimed-requires-clause-room
claimed-requires-clause-room g c = c.requires.names.room

pub claimed-requires-clause-once : goal.claimed-requires-clause-once
claimed-requires-clause-once g c =
    let plan = c.args.plan.now in
    subst (λ (events : List CoreEvent). IsDistinct nat_eq (claims events)) (sym c.as_slice-history.ensures) (c.claimed_once.ensures.once plan c.requires.run.0 c.args.parts.history c.requires.run.1)

pub claimed-requires-clause-named : goal.claimed-requires-clause-named
claimed-requires-clause-named g c =
    let plan = c.args.plan.now in
    let names = c.args.known.names in
    subst (λ (events : List CoreEvent). All (λ number. is_some (value_at names number) ≡ true) (claims events)) (sym c.as_slice-history.ensures)
    (all_some plan names c.requires.names c.requires.range (claims c.args.parts.history) (c.claimed_once.ensures.reached plan c.requires.run.0 c.args.parts.history c.requires.run.1))

pub claimed-requires-clause-none : goal.claimed-requires-clause-none
claimed-requires-clause-none g c = c.requires.names.none

pub returns-clause-ran : goal.returns-clause-ran
returns-clause-ran g c =
    let plan = c.args.plan.now in
    let names = c.args.known.names in
    let history = c.args.parts.history in
    ran_commands plan names c.requires.names c.requires.range history (c.claimed_once.ensures.reached plan c.requires.run.0 history c.requires.run.1) c.claimed.result
    (subst (λ (events : List CoreEvent). map Some c.claimed.result ≡ map (value_at names) (claims events)) c.as_slice-history.ensures c.claimed.ensures)

pub returns-clause-stops : goal.returns-clause-stops
returns-clause-stops g c =
    let plan = c.args.plan.now in
    subst (λ (events : List CoreEvent). OfBads plan events (StopsBy plan.rules c.args.drained c.stopped_by-stopped.result)) c.as_slice-history.ensures c.stopped_by-stopped.ensures.stops

pub returns-clause-tells : goal.returns-clause-tells
returns-clause-tells g c =
    let told = c.stopped_by-stopped in
    let plan = c.args.plan.now in
    let ended = told.new.ended in
    subst (λ (old : List EndedRule). TellsFor (told_ends plan.rules (ends c.args.parts.history)) old ended told.result) c.requires.none
    (subst (λ (events : List CoreEvent). TellsFor (told_ends plan.rules (ends events)) c.args.log.ended ended told.result) c.as_slice-history.ensures told.ensures.tells)

pub returns-clause-named : goal.returns-clause-named
returns-clause-named g c =
    let plan = c.args.plan.now in
    let names = c.args.known.names in
    let history = c.args.parts.history in
    let reached = c.claimed_once.ensures.reached plan c.requires.run.0 history c.requires.run.1 in
    subst (λ (events : List CoreEvent). map Some c.claimed.result ≡ map (value_at names) (claims events)) c.as_slice-history.ensures c.claimed.ensures
    ∙ names_alike plan.rules (value_at names) (claims history) (all_named plan names c.requires.names c.requires.range (claims history) reached)

-- ---- the chains of the rules that ended

pub ended_chains-because-requires-clause-once : goal.ended_chains-because-requires-clause-once
ended_chains-because-requires-clause-once g c =
    let plan = c.args.plan.now in
    let history = c.args.parts.history in
    let once = c.claimed_once.ensures.once plan c.requires.run.0 history c.requires.run.1 in
    let reached = c.claimed_once.ensures.reached plan c.requires.run.0 history c.requires.run.1 in
    subst (λ (events : List CoreEvent). IsDistinct nat_eq (numbers (ends events))) (sym c.as_slice-history.ensures) (ended_once plan c.requires.run.0 history c.requires.run.1 once reached).once

pub ended_chains-because-requires-clause-ready : goal.ended_chains-because-requires-clause-ready
ended_chains-because-requires-clause-ready g c =
    let plan = c.args.plan.now in
    let chains = c.args.known.chains in
    let history = c.args.parts.history in
    let once = c.claimed_once.ensures.once plan c.requires.run.0 history c.requires.run.1 in
    let reached = c.claimed_once.ensures.reached plan c.requires.run.0 history c.requires.run.1 in
    subst (λ (events : List CoreEvent). IfSome chains (IsReadyFor (numbers (ends events)))) (sym c.as_slice-history.ensures)
    (ready_for plan (numbers (ends history)) (ended_once plan c.requires.run.0 history c.requires.run.1 once reached).reached chains c.requires.chains)

pub returns-clause-why : goal.returns-clause-why
returns-clause-why g c = λ nodes.
    let plan = c.args.plan.now in
    let chains = c.args.known.chains in
    let history = c.args.parts.history in
    let told = c.stopped_by-stopped in
    let because = c.ended_chains-because.result in
    let whole = told_ends plan.rules (ends history) in
    let ended = told.new.ended in
    let once = c.claimed_once.ensures.once plan c.requires.run.0 history c.requires.run.1 in
    let reached = c.claimed_once.ensures.reached plan c.requires.run.0 history c.requires.run.1 in
    let ends_reached = (ended_once plan c.requires.run.0 history c.requires.run.1 once reached).reached in
    let tells : TellsFor whole [] ended told.result = subst (λ (old : List EndedRule). TellsFor whole old ended told.result) c.requires.none
    (subst (λ (events : List CoreEvent). TellsFor (told_ends plan.rules (ends events)) c.args.log.ended ended told.result) c.as_slice-history.ensures told.ensures.tells) in
    let front = tells_front whole [] ended told.result tells in
    say_why_ended nodes plan (ends history) ended front.0 because front.1 ends_reached (have_names plan (numbers (ends history)) c.requires.range ends_reached) chains
    (subst (λ (events : List CoreEvent). IfSome chains (λ values. map Some because ≡ map (value_at values) (numbers (ends events)))) c.as_slice-history.ensures c.ended_chains-because.ensures.ended)

-- ---- how the begins and the ends followed each other

pub in_history-requires-clause-none : goal.in_history-requires-clause-none
in_history-requires-clause-none g c = c.requires.steps.none

pub in_history-requires-clause-room : goal.in_history-requires-clause-room
in_history-requires-clause-room g c =
    let plan = c.args.plan.now in
    let history = c.args.parts.history in
    let steps = c.args.known.steps in
    let room = c.requires.steps.room in
    let few = steps_fit plan c.requires.run.0 history c.requires.run.1 (c.claimed_once.ensures.reached plan c.requires.run.0 history c.requires.run.1) in
    subst (λ (events : List CoreEvent). vec_len steps.taken + length (steps_of events) ≤ vec_capacity steps.taken) (sym c.as_slice-history.ensures) (omega (arith, room, few))

pub returns-clause-steps : goal.returns-clause-steps
returns-clause-steps g c = c.in_history.ensures ∙ ap steps_of c.as_slice-history.ensures

pub returns-clause-only_runs : goal.returns-clause-only_runs
returns-clause-only_runs g c = record { read = refl; removed = refl }
