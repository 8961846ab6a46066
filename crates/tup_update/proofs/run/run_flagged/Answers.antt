use Rattle.std.proofs.Common.{◌≡◌, ℕ, length, map, Bool, false, Option, Some, ap, refl, subst, ◌∙◌}
use Rattle.std.specs.Option.{IfSome}
use Rattle.tup_graph.specs.Graph.{GraphState, is_flagged}
use Rattle.tup_core.specs.declared.plan.Plan.{Plan}
use Rattle.tup_apart.specs.Run.{MayRun}
use Rattle.tup_promise.specs.declared.log.Log.{Log}
use Rattle.tup_ends.proofs.Done.{flags_due}
use Rattle.tup_update.specs.Promised.{PromisesOver}
use Rattle.tup_update.proofs.Promised.{begins_none, nothing_due, unchanged, unchanged_sources}
use Rattle.tup_phases.specs.Logged.{IsLogged}
use Rattle.tup_update.proofs.Chained.{none_said}
use Rattle.tup_update.proofs.Logging.{memory_logged, none_logged}
use Rattle.tup_update.proofs.Crewed.{crew_memory}
use Rattle.tup_update.proofs.Whole.{memory_counted, memory_ran, memory_stops, none_ran}
use Rattle.tup_update.proofs.Done.{same_done}
use Rattle.tup_update.proofs.run.run_flagged.Goals as goal

-- the plan that was found may be run
found_may_run : (g : GraphState) (found : Option Plan) (plan : Plan) → found ≡ Some plan → IfSome found (MayRun g) → MayRun g plan
found_may_run g found plan is may = subst (λ (given : Option Plan). IfSome given (MayRun g)) is may

-- and goes on as it is to
found_going : (keep_going : Bool) (found : Option Plan) (plan : Plan) → found ≡ Some plan → IfSome found (λ given. given.keep_going ≡ keep_going) → plan.keep_going ≡ keep_going
found_going keep_going found plan is same = subst (λ (given : Option Plan). IfSome given (λ one. one.keep_going ≡ keep_going)) is same

-- ---- nothing is flagged

pub returns-then-none_flagged-clause-counted : goal.returns-then-none_flagged-clause-counted
returns-then-none_flagged-clause-counted g c = record { any = refl; alone = λ one. refl }

pub returns-then-none_flagged-clause-ran : goal.returns-then-none_flagged-clause-ran
returns-then-none_flagged-clause-ran g c = λ tells. none_ran c.args.log.ran (map g.R.Runner.ran c.args.crew.items) c.requires.none.ran

pub returns-then-none_flagged-clause-promised : goal.returns-then-none_flagged-clause-promised
returns-then-none_flagged-clause-promised g c =
    let unflagged : (number : ℕ) → is_flagged c.args.graph.nodes number ≡ false =
    subst (λ (nodes : GraphState). (number : ℕ) → is_flagged nodes number ≡ false) c.nodes.ensures.value (c.none_flagged.ensures c.if-none_flagged.true) in
    nothing_due g.S.Site g.R.Runner c.args.asked.keep_going (length c.args.crew.items) c.args.graph c.args.site c.args.log
    (λ tells first since prepared. let site_laws = g.met.S.Site g.world.𝓛 g.world.𝓜 g.world.𝓡 ((λ s x. x), (λ x. x), (λ x. x), λ x. x) in flags_due g.S.Site g.R.Runner.next first since c.args.graph c.args.site prepared (λ t u w within left. site_laws.earlier c.args.site t u w tells within left) (site_laws.present c.args.site tells))
    c.requires.none unflagged (λ first since tells prepared. c.prepared_is_finished.ensures g.R.Runner.next first since c.args.graph tells prepared unflagged)
    (λ first since tells prepared. c.prepared_is_settled.ensures g.R.Runner.next first since c.args.graph tells prepared unflagged)

pub returns-then-none_flagged-clause-sources : goal.returns-then-none_flagged-clause-sources
returns-then-none_flagged-clause-sources g c = unchanged_sources g.S.Site c.args.graph c.args.site c.args.site refl

-- ---- the plan of what is flagged is run

pub run_plan-updated-requires-clause-may_run : goal.run_plan-updated-requires-clause-may_run
run_plan-updated-requires-clause-may_run g c κs lives = found_may_run c.args.graph.nodes c.in-Ok-Some.field-0 c.in-Ok-Some.plan c.in-Ok-Some.field-0-is c.in-Ok-Some.ensures.may_run

pub returns-in-Ok-Some-clause-promised : goal.returns-in-Ok-Some-clause-promised
returns-in-Ok-Some-clause-promised g c =
    let done = c.run_plan-updated.result in
    subst (λ (going : Bool). PromisesOver g.S.Site g.R.Runner going (length c.args.crew.items) c.args.graph c.args.site done.site done.log done.stopped)
    (found_going c.args.asked.keep_going c.in-Ok-Some.field-0 c.in-Ok-Some.plan c.in-Ok-Some.field-0-is c.in-Ok-Some.ensures.keep_going) c.run_plan-updated.ensures.promised

-- ---- there was no memory for a plan, or it may not be run

pub returns-in_default-clause-crew : goal.returns-in_default-clause-crew
returns-in_default-clause-crew g c = ap length c.without_memory.ensures.crew

pub returns-in_default-clause-sources : goal.returns-in_default-clause-sources
returns-in_default-clause-sources g c = unchanged_sources g.S.Site c.args.graph c.args.site c.without_memory.result.site c.without_memory.ensures.site

pub returns-in_default-clause-promised : goal.returns-in_default-clause-promised
returns-in_default-clause-promised g c =
    let done = c.without_memory in
    unchanged g.S.Site g.R.Runner c.args.asked.keep_going (length c.args.crew.items) c.args.graph c.args.site done.result.site done.result.log done.result.stopped
    (λ tells first since prepared. let site_laws = g.met.S.Site g.world.𝓛 g.world.𝓜 g.world.𝓡 ((λ s x. x), (λ x. x), (λ x. x), λ x. x) in flags_due g.S.Site g.R.Runner.next first since c.args.graph c.args.site prepared (λ t u w within left. site_laws.earlier c.args.site t u w tells within left) (site_laws.present c.args.site tells))
    done.ensures.site (begins_none c.args.log done.result.log done.ensures.log c.requires.none) done.ensures.stopped

pub returns-in_default-clause-stops : goal.returns-in_default-clause-stops
returns-in_default-clause-stops g c = memory_stops c.without_memory.result.stopped c.without_memory.ensures.stopped

pub returns-in_default-clause-counted : goal.returns-in_default-clause-counted
returns-in_default-clause-counted g c =
    memory_counted c.without_memory.result.stopped c.without_memory.ensures.stopped (length c.args.crew.items) (g.S.Site.faults c.args.site) (g.S.Site.faults c.without_memory.result.site) (ap g.S.Site.faults c.without_memory.ensures.site)

pub returns-in_default-clause-cause : goal.returns-in_default-clause-cause
returns-in_default-clause-cause g c = crew_memory (map g.R.Runner.faults c.args.crew.items) (map g.R.Runner.faults c.without_memory.result.crew.items) c.without_memory.result.stopped c.without_memory.ensures.stopped (ap (map g.R.Runner.faults) c.without_memory.ensures.crew)

pub returns-in_default-clause-ran : goal.returns-in_default-clause-ran
returns-in_default-clause-ran g c = λ tells.
    let done = c.without_memory in
    memory_ran done.result.stopped done.ensures.stopped done.result.log.ran (map g.R.Runner.ran c.args.crew.items) (map g.R.Runner.ran done.result.crew.items) (ap (λ (log : Log). log.ran) done.ensures.log ∙ c.requires.none.ran)
    (ap (map g.R.Runner.ran) done.ensures.crew)

-- ---- what its log says

pub returns-then-none_flagged-clause-logged : goal.returns-then-none_flagged-clause-logged
returns-then-none_flagged-clause-logged g c = none_logged (length c.args.crew.items) c.args.asked.keep_going c.args.log c.requires.none

pub returns-in-Ok-Some-clause-logged : goal.returns-in-Ok-Some-clause-logged
returns-in-Ok-Some-clause-logged g c =
    let done = c.run_plan-updated.result in
    subst (λ (going : Bool). IsLogged (length c.args.crew.items) going done.log done.stopped) (found_going c.args.asked.keep_going c.in-Ok-Some.field-0 c.in-Ok-Some.plan c.in-Ok-Some.field-0-is c.in-Ok-Some.ensures.keep_going) c.run_plan-updated.ensures.logged

pub returns-in_default-clause-logged : goal.returns-in_default-clause-logged
returns-in_default-clause-logged g c =
    let done = c.without_memory in
    memory_logged (length c.args.crew.items) c.args.asked.keep_going c.args.log done.result.log done.result.stopped done.ensures.log done.ensures.stopped c.requires.none

-- ---- what it says of why

pub returns-then-none_flagged-clause-said : goal.returns-then-none_flagged-clause-said
returns-then-none_flagged-clause-said g c = none_said c.args.asked.explain c.args.graph.nodes c.args.log c.new.result c.requires.none.ended c.new.ensures

pub returns-in_default-clause-said : goal.returns-in_default-clause-said
returns-in_default-clause-said g c =
    let done = c.without_memory in
    none_said c.args.asked.explain c.args.graph.nodes done.result.log done.result.because (ap (λ (log : Log). log.ended) done.ensures.log ∙ c.requires.none.ended) done.ensures.because

-- ---- what was read and removed stays

pub returns-then-none_flagged-clause-only_runs : goal.returns-then-none_flagged-clause-only_runs
returns-then-none_flagged-clause-only_runs g c = record { read = refl; removed = refl }

pub returns-in_default-clause-only_runs : goal.returns-in_default-clause-only_runs
returns-in_default-clause-only_runs g c = same_done c.args.log c.without_memory.result.log c.without_memory.ensures.log
