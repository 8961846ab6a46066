use Rattle.std.proofs.Common.{◌≡◌, ℕ, length, map, ap, refl, sym, subst, ◌∙◌}
use Rattle.std.specs.Option.{IfSome}
use Rattle.tup_graph.specs.Graph.{GraphState}
use Rattle.tup_stored_graph.specs.Held.{Held}
use Rattle.tup_core.specs.declared.plan.Plan.{Plan}
use Rattle.tup_rule_outputs.specs.declared.fault.BoardFault.{BoardFault}
use Rattle.tup_board.specs.Board.{BoardState, Opening}
use Rattle.tup_board.specs.Calls.{opened_as}
use Rattle.tup_promise.specs.Cause.{CrewCountedCause}
use Rattle.tup_promise.specs.declared.log.Log.{Log}
use Rattle.tup_ends.proofs.Done.{flags_due}
use Rattle.tup_update.specs.Promised.{KeepsSources, PromisesOver}
use Rattle.tup_update.proofs.Promised.{begins_none, unchanged, unchanged_sources}
use Rattle.tup_update.specs.Because.{AreChainsOf}
use Rattle.tup_update.proofs.Chained.{are_ready, none_said, said}
use Rattle.tup_update.proofs.Logging.{memory_logged}
use Rattle.tup_update.proofs.Crewed.{crew_memory}
use Rattle.tup_update.proofs.Whole.{memory_counted, memory_ran, memory_stops}
use Rattle.tup_update.proofs.Done.{same_done}
use Rattle.tup_update.proofs.run.run_plan.Goals as goal

-- a board at its opening is the one of the graph and the site that it was made of
as_opened : {S : Type 0} (plan : Plan) (graph : Held) (site : S) (board : BoardState S) → board ≡ opened_as plan graph site → board ≡ opened_as plan board.opening.graph board.opening.site
as_opened plan graph site board is = subst (λ (b : BoardState _). b ≡ opened_as plan b.opening.graph b.opening.site) (sym is) refl

-- ---- a board was made

pub new-requires : goal.new-requires
new-requires g c = record {
  fresh = c.requires.fresh;
  stands = c.requires.stands;
  seen = c.requires.seen;
  plan = c.requires.may_run.plan;
  apart = c.requires.may_run.apart;
}

pub run_board-requires-clause-opening : goal.run_board-requires-clause-opening
run_board-requires-clause-opening g c κs lives =
    as_opened c.args.plan.now c.args.graph c.args.site c.in-Ok-new.board c.in-Ok-new.ensures.board

pub returns-in-Ok-new-clause-counted : goal.returns-in-Ok-new-clause-counted
returns-in-Ok-new-clause-counted g c =
    let done = c.run_board.result in
    subst (λ (n : ℕ). CrewCountedCause (length c.args.crew.items) n (g.S.Site.faults done.site) done.stopped) (ap (λ (board : BoardState _). g.S.Site.faults board.opening.site) c.in-Ok-new.ensures.board) c.run_board.ensures.counted

pub returns-in-Ok-new-clause-promised : goal.returns-in-Ok-new-clause-promised
returns-in-Ok-new-clause-promised g c =
    let done = c.run_board.result in
    subst (λ (o : Opening _). PromisesOver g.S.Site g.R.Runner c.args.plan.now.keep_going (length c.args.crew.items) o.graph o.site done.site done.log done.stopped) (ap (λ (board : BoardState _). board.opening) c.in-Ok-new.ensures.board) c.run_board.ensures.promised

pub returns-in-Ok-new-clause-sources : goal.returns-in-Ok-new-clause-sources
returns-in-Ok-new-clause-sources g c =
    subst (λ (o : Opening _). KeepsSources g.S.Site o.graph o.site c.run_board.result.site) (ap (λ (board : BoardState _). board.opening) c.in-Ok-new.ensures.board) c.run_board.ensures.sources

-- ---- there was no memory for it

pub returns-in-Err-clause-crew : goal.returns-in-Err-clause-crew
returns-in-Err-clause-crew g c = ap length c.without_memory-in-Err.ensures.crew

pub returns-in-Err-clause-sources : goal.returns-in-Err-clause-sources
returns-in-Err-clause-sources g c =
    let done = c.without_memory-in-Err in
    unchanged_sources g.S.Site c.args.graph c.args.site done.result.site (done.ensures.site ∙ ap (λ (back : _ × Held × BoardFault). back.0) c.in-Err.ensures.memory)

pub returns-in-Err-clause-promised : goal.returns-in-Err-clause-promised
returns-in-Err-clause-promised g c =
    let done = c.without_memory-in-Err in
    unchanged g.S.Site g.R.Runner c.args.plan.now.keep_going (length c.args.crew.items) c.args.graph c.args.site done.result.site done.result.log done.result.stopped
    (λ tells first since prepared. let site_laws = g.met.S.Site g.world.𝓛 g.world.𝓜 g.world.𝓡 ((λ s x. x), (λ x. x), (λ x. x), λ x. x) in flags_due g.S.Site g.R.Runner.next first since c.args.graph c.args.site prepared (λ t u w within left. site_laws.earlier c.args.site t u w tells within left) (site_laws.present c.args.site tells))
    (done.ensures.site ∙ ap (λ (back : _ × Held × BoardFault). back.0) c.in-Err.ensures.memory) (begins_none c.args.log done.result.log done.ensures.log c.requires.none) done.ensures.stopped

pub returns-in-Err-clause-stops : goal.returns-in-Err-clause-stops
returns-in-Err-clause-stops g c = memory_stops c.without_memory-in-Err.result.stopped c.without_memory-in-Err.ensures.stopped

pub returns-in-Err-clause-counted : goal.returns-in-Err-clause-counted
returns-in-Err-clause-counted g c =
    let done = c.without_memory-in-Err in
    memory_counted done.result.stopped done.ensures.stopped (length c.args.crew.items) (g.S.Site.faults c.args.site) (g.S.Site.faults done.result.site)
    (ap g.S.Site.faults (done.ensures.site ∙ ap (λ (back : _ × Held × BoardFault). back.0) c.in-Err.ensures.memory))

pub returns-in-Err-clause-cause : goal.returns-in-Err-clause-cause
returns-in-Err-clause-cause g c = crew_memory (map g.R.Runner.faults c.args.crew.items) (map g.R.Runner.faults c.without_memory-in-Err.result.crew.items) c.without_memory-in-Err.result.stopped c.without_memory-in-Err.ensures.stopped (ap (map g.R.Runner.faults) c.without_memory-in-Err.ensures.crew)

pub returns-in-Err-clause-ran : goal.returns-in-Err-clause-ran
returns-in-Err-clause-ran g c = λ tells.
    let done = c.without_memory-in-Err in
    memory_ran done.result.stopped done.ensures.stopped done.result.log.ran (map g.R.Runner.ran c.args.crew.items) (map g.R.Runner.ran done.result.crew.items) (ap (λ (log : Log). log.ran) done.ensures.log ∙ c.requires.none.ran)
    (ap (map g.R.Runner.ran) done.ensures.crew)

-- ---- nor for the names of its rules

pub returns-in_default-clause-crew : goal.returns-in_default-clause-crew
returns-in_default-clause-crew g c = ap length c.without_memory.ensures.crew

pub returns-in_default-clause-sources : goal.returns-in_default-clause-sources
returns-in_default-clause-sources g c = unchanged_sources g.S.Site c.args.graph c.args.site c.without_memory.result.site c.without_memory.ensures.site

pub returns-in_default-clause-promised : goal.returns-in_default-clause-promised
returns-in_default-clause-promised g c =
    let done = c.without_memory in
    unchanged g.S.Site g.R.Runner c.args.plan.now.keep_going (length c.args.crew.items) c.args.graph c.args.site done.result.site done.result.log done.result.stopped
    (λ tells first since prepared. let site_laws = g.met.S.Site g.world.𝓛 g.world.𝓜 g.world.𝓡 ((λ s x. x), (λ x. x), (λ x. x), λ x. x) in flags_due g.S.Site g.R.Runner.next first since c.args.graph c.args.site prepared (λ t u w within left. site_laws.earlier c.args.site t u w tells within left) (site_laws.present c.args.site tells))
    done.ensures.site (begins_none c.args.log done.result.log done.ensures.log c.requires.none) done.ensures.stopped

pub returns-in_default-clause-stops : goal.returns-in_default-clause-stops
returns-in_default-clause-stops g c = memory_stops c.without_memory.result.stopped c.without_memory.ensures.stopped

pub returns-in_default-clause-counted : goal.returns-in_default-clause-counted
returns-in_default-clause-counted g c =
    let done = c.without_memory in
    memory_counted done.result.stopped done.ensures.stopped (length c.args.crew.items) (g.S.Site.faults c.args.site) (g.S.Site.faults done.result.site) (ap g.S.Site.faults done.ensures.site)

pub returns-in_default-clause-cause : goal.returns-in_default-clause-cause
returns-in_default-clause-cause g c = crew_memory (map g.R.Runner.faults c.args.crew.items) (map g.R.Runner.faults c.without_memory.result.crew.items) c.without_memory.result.stopped c.without_memory.ensures.stopped (ap (map g.R.Runner.faults) c.without_memory.ensures.crew)

pub returns-in_default-clause-ran : goal.returns-in_default-clause-ran
returns-in_default-clause-ran g c = λ tells.
    let done = c.without_memory in
    memory_ran done.result.stopped done.ensures.stopped done.result.log.ran (map g.R.Runner.ran c.args.crew.items) (map g.R.Runner.ran done.result.crew.items) (ap (λ (log : Log). log.ran) done.ensures.log ∙ c.requires.none.ran)
    (ap (map g.R.Runner.ran) done.ensures.crew)

-- ---- what its log says

pub returns-in-Err-clause-logged : goal.returns-in-Err-clause-logged
returns-in-Err-clause-logged g c =
    let done = c.without_memory-in-Err in
    memory_logged (length c.args.crew.items) c.args.plan.now.keep_going c.args.log done.result.log done.result.stopped done.ensures.log done.ensures.stopped c.requires.none

pub returns-in_default-clause-logged : goal.returns-in_default-clause-logged
returns-in_default-clause-logged g c =
    let done = c.without_memory in
    memory_logged (length c.args.crew.items) c.args.plan.now.keep_going c.args.log done.result.log done.result.stopped done.ensures.log done.ensures.stopped c.requires.none

pub run_board-requires-clause-none : goal.run_board-requires-clause-none
run_board-requires-clause-none g c κs lives = c.requires.none.ended

-- ---- what it says of why

pub run_board-requires-clause-chains : goal.run_board-requires-clause-chains
run_board-requires-clause-chains g c κs lives = are_ready c.nodes.result.now c.args.plan.now c.in-Ok.known.chains c.in-Ok.ensures.chains

pub returns-in-Ok-new-clause-said : goal.returns-in-Ok-new-clause-said
returns-in-Ok-new-clause-said g c =
    let done = c.run_board in
    let chains = c.in-Ok.known.chains in
    let plan = c.args.plan.now in
    said c.args.graph.nodes plan c.args.explain done.result.log done.result.because chains c.requires.may_run c.in-Ok.ensures.asked
    (subst (λ (nodes : GraphState). IfSome chains (AreChainsOf nodes plan)) c.nodes.ensures.value c.in-Ok.ensures.chains) done.ensures.unasked (done.ensures.why c.args.graph.nodes)

pub returns-in-Err-clause-said : goal.returns-in-Err-clause-said
returns-in-Err-clause-said g c =
    let done = c.without_memory-in-Err in
    none_said c.args.explain c.args.graph.nodes done.result.log done.result.because (ap (λ (log : Log). log.ended) done.ensures.log ∙ c.requires.none.ended) done.ensures.because

pub returns-in_default-clause-said : goal.returns-in_default-clause-said
returns-in_default-clause-said g c =
    let done = c.without_memory in
    none_said c.args.explain c.args.graph.nodes done.result.log done.result.because (ap (λ (log : Log). log.ended) done.ensures.log ∙ c.requires.none.ended) done.ensures.because

-- ---- what was read and removed stays

pub returns-in-Err-clause-only_runs : goal.returns-in-Err-clause-only_runs
returns-in-Err-clause-only_runs g c = same_done c.args.log c.without_memory-in-Err.result.log c.without_memory-in-Err.ensures.log

pub returns-in_default-clause-only_runs : goal.returns-in_default-clause-only_runs
returns-in_default-clause-only_runs g c = same_done c.args.log c.without_memory.result.log c.without_memory.ensures.log
