use Rattle.std.specs.Prelude.{All, Contains, IsTrue}
use Rattle.std.proofs.Common.{◌≡◌, ◌≢◌, ℕ, false, List, length, map, Option, None, Some, ap, sym, subst, ◌∙◌, []}
use Rattle.std.proofs.lemmas.List.{length-map}
use Rattle.std.proofs.lemmas.List.Elements.{All-weaker}
use Rattle.std.specs.FinMap as finite
use Rattle.tup_core.specs.declared.event.Cause.{Cause}
use Rattle.tup_core.specs.declared.event.Cause.TheVariants as cause
use Rattle.tup_core.specs.declared.event.CoreEvent.{CoreEvent}
use Rattle.tup_core.specs.declared.event.CoreEvent.TheVariants.{Stop}
use Rattle.tup_core.specs.declared.plan.Plan.{Plan}
use Rattle.tup_core.specs.Run.{IsRun, claims}
use Rattle.tup_core.specs.Step.{opening}
use Rattle.tup_board.specs.Board.{BoardState, Opening, plan_of, state}
use Rattle.tup_board.specs.Calls.{Drains, commands}
use Rattle.tup_parallel.proofs.Stopping.{none_stops}
use Rattle.tup_promise.specs.Cause.{CrewCountedCause, CrewRunCause}
use Rattle.tup_access.specs.declared.verdict.Verdict.{Verdict}
use Rattle.tup_promise.specs.declared.stop.Stop.TheVariants as stop
use Rattle.tup_update.specs.Run.{OfBads, StopsAtBad, StopsBy}
use Rattle.tup_update.proofs.Counting.{counted, large_there, shared, stopped_full, stops_running, stops_so}
use Rattle.tup_update.proofs.Crewed.{alone_count, crew_cause, crew_runs, one_rose}
use Rattle.tup_apart.specs.Run.{OutputsOnce}
use Rattle.tup_rule.specs.declared.rule.RuleName.{RuleName}
use Rattle.tup_table.specs.Table.{entries_in}
use Rattle.tup_graph.specs.Graph.{GraphState}
use Rattle.tup_graph.specs.Opening.{IsGraphOf}
use Rattle.tup_stored_graph.specs.Held.{Held, is_fresh}
use Rattle.tup_core.specs.Sound.{IsAcyclic}
use Rattle.tup_promise.specs.BadEnds.{IsTrueEnd}
use Rattle.tup_promise.specs.Crashes.{SourcesStay}
use Rattle.tup_promise.specs.Needed.{HasName, RunsAll}
use Rattle.tup_promise.specs.Prepared.{IsPrepared}
use Rattle.tup_promise.specs.Ran.{CrewRuns, command_of}
use Rattle.tup_ends.proofs.Due.{asked}
use Rattle.tup_update.specs.Promised.{Promises, WasPrepared}
use Rattle.tup_update.proofs.BadEnds.{IsNotedAs, blames_first, first_blamed, log_noted}
use Rattle.tup_update.proofs.FirstBad.{HasBad, bad_is_there}
use Rattle.tup_update.proofs.GoodEnds.{IsGoneAs, good_ends, log_gone}
use Rattle.tup_update.proofs.Promised.{blames_rules, done_by, files_by, full_by, goes_on, runs_all_by, stops_at_bad}
use Rattle.tup_update.proofs.run.run_board.Given.{Over}
use Rattle.tup_update.proofs.run.run_board.Goals.{After-told}
use Rattle.tup_update.specs.Ended.{TellsFor, ends, told_ends}
use Rattle.tup_update.specs.Names.{name_in}
use Rattle.tup_update.specs.Steps.{steps_of}
use Rattle.tup_update.proofs.Logging.{board_logged}
use Rattle.tup_update.proofs.run.run_board.Goals as goal

pub drain_by-done-requires-clause-plan : goal.drain_by-done-requires-clause-plan
drain_by-done-requires-clause-plan g c κs lives = sym (ap (λ (b : BoardState _). plan_of b) c.requires.opening)

pub drain_by-done-requires-clause-none : goal.drain_by-done-requires-clause-none
drain_by-done-requires-clause-none g c κs lives = ap (λ (b : BoardState _). b.history) c.requires.opening

pub drain_by-done-requires-clause-crew : goal.drain_by-done-requires-clause-crew
drain_by-done-requires-clause-crew g c κs lives = c.requires.crew

pub told-requires-clause-run : goal.told-requires-clause-run
told-requires-clause-run g c =
    let board = c.drain_by-done.result.board in
    let files = finite.entries board.opening.graph.nodes.seen in
    let plan = ap (λ (o : Opening _). o.plan) c.drain_by-done.ensures.opening ∙ ap (λ (b : BoardState _). plan_of b) c.requires.opening in (
      files,
      subst (λ (p : Plan). IsRun p (opening p files) c.into_parts-parts.result.history) plan
          (subst (λ (events : List CoreEvent). IsRun (plan_of board) (opening (plan_of board) files) events) (sym c.into_parts-parts.ensures.history) c.into_parts-parts.ensures.keeps.run),
    )

-- the board has the plan that it was made of
plan_is : (g : Over) (c : After-told g) → plan_of c.drain_by-done.result.board ≡ c.args.plan.now
plan_is g c = ap (λ (o : Opening _). o.plan) c.drain_by-done.ensures.opening ∙ ap (λ (b : BoardState _). plan_of b) c.requires.opening

-- how many runners there are
abbrev jobs : (g : Over) → After-told g → ℕ
jobs g c = length c.args.crew.items

-- the bad verdicts at the end
abbrev bads : (g : Over) → After-told g → ℕ → Option Verdict
bads g c = (state c.drain_by-done.result.board).bad

-- and what stopped the update by them
stops_by : (g : Over) (c : After-told g) → StopsBy c.args.plan.now.rules c.drain_by-done.result.drained c.told.result.stopped (bads g c)
stops_by g c =
    let board = c.drain_by-done.result.board in
    stops_so board c.args.plan.now c.drain_by-done.result.drained c.told.result.stopped (plan_is g c) c.into_parts-parts.ensures.keeps.run
    (subst (λ (events : List CoreEvent). OfBads c.args.plan.now events (StopsBy c.args.plan.now.rules c.drain_by-done.result.drained c.told.result.stopped)) c.into_parts-parts.ensures.history c.told.ensures.stops)

-- where it was stopped for a bad verdict, there is one
has_bad : (g : Over) (c : After-told g) → HasBad c.args.plan.now (state c.drain_by-done.result.board)
has_bad g c =
    let board = c.drain_by-done.result.board in
    subst (λ (p : Plan). HasBad p (state board)) (plan_is g c)
    (bad_is_there (plan_of board) (finite.entries board.opening.graph.nodes.seen) board.history c.into_parts-parts.ensures.keeps.run)

-- where nothing stopped the update, nothing stopped the board
none_stopped : (g : Over) (c : After-told g) → c.told.result.stopped ≡ None → (state c.drain_by-done.result.board).stopped ≡ None
none_stopped g c none =
    let board = c.drain_by-done.result.board in
    let done = done_by c.args.plan.now (state board) c.drain_by-done.result.drained c.told.result.stopped (has_bad g c) c.drain_by-done.ensures.drains (stops_by g c) none in
    (subst (Drains (state board)) done c.drain_by-done.ensures.drains).0

pub returns-clause-stops : goal.returns-clause-stops
returns-clause-stops g c = stops_running c.args.plan.now.rules (bads g c) c.drain_by-done.result.drained c.told.result.stopped (stops_by g c)

pub returns-clause-crew : goal.returns-clause-crew
returns-clause-crew g c = ap length c.told.ensures.crew ∙ c.drain_by-done.ensures.many

pub returns-clause-counted : goal.returns-clause-counted
returns-clause-counted g c =
    let board = c.drain_by-done.result.board in
    let faults = g.S.Site.faults in
    let first : faults board.opening.site ≡ faults c.args.board.opening.site = ap (λ (o : Opening _). faults o.site) c.drain_by-done.ensures.opening in
    let began : faults c.args.board.site ≡ faults c.args.board.opening.site = ap (λ (b : BoardState _). faults b.site) c.requires.opening in
    let ended : faults c.told.result.site ≡ faults board.site = ap faults (c.told.ensures.site ∙ c.into_parts-parts.ensures.site) in
    let stopped = c.told.result.stopped in
    let rules = c.args.plan.now.rules in
    let sound = c.into_parts-parts.ensures.keeps in
    subst (λ n. CrewCountedCause (jobs g c) n (faults c.told.result.site) stopped) first
    (subst (λ n. CrewCountedCause (jobs g c) (faults board.opening.site) n stopped) (sym ended) (record {
      any =
          shared rules (bads g c) g.S.Site g.R.Runner board sound c.drain_by-done.result.drained stopped (λ none. (c.drain_by-done.ensures.steady (none_stopped g c none)).0 ∙ began ∙ sym first) c.drain_by-done.ensures.drains (stops_by g c);
      alone = λ one.
          counted rules (bads g c) g.S.Site g.R.Runner board sound (λ other. (c.drain_by-done.ensures.alone one).steady other ∙ began ∙ sym first) c.drain_by-done.result.drained stopped c.drain_by-done.ensures.drains (stops_by g c);
    }))

pub returns-clause-cause : goal.returns-clause-cause
returns-clause-cause g c =
    let before = c.args.crew.items in
    let now = c.drain_by-done.result.crew.items in
    let faults = g.R.Runner.faults in
    let drained = c.drain_by-done.result.drained in
    let stopped = c.told.result.stopped in
    subst (λ (l : List _). CrewRunCause (map faults before) (map faults l) stopped) (sym c.told.ensures.crew)
    (crew_cause c.args.plan.now.rules (bads g c) (map faults before) (map faults now) drained stopped (λ is. one_rose faults before now c.drain_by-done.ensures.many (c.drain_by-done.ensures.failed is))
    (λ is. (c.drain_by-done.ensures.steady (none_stopped g c is)).1)
    (λ one other.
    let single = sym (length-map before faults) ∙ one in
    alone_count faults before now c.drain_by-done.ensures.many single (λ d. ((c.drain_by-done.ensures.alone single).cause d).steady other))
    (stops_by g c))

-- where a seat was stopped, the update was
seat_stopped : (g : Over) (c : After-told g) (seat : ℕ) (why : Cause) → Contains c.drain_by-done.result.board.history (Stop seat why) → c.told.result.stopped ≢ None
seat_stopped g c seat why there none =
    let board = c.drain_by-done.result.board in
    none_stops (plan_of board) board.history (opening (plan_of board) (finite.entries board.opening.graph.nodes.seen)) (none_stopped g c none) seat why there

pub returns-clause-ran : goal.returns-clause-ran
returns-clause-ran g c = λ tells.
    let board = c.drain_by-done.result.board in
    let before = c.args.crew.items in
    let now = c.drain_by-done.result.crew.items in
    let given = g.R.Runner.ran in
    let ran = c.told.result.log.ran in
    let stopped = c.told.result.stopped in
    let plan = c.args.plan.now in
    let here = c.into_parts-parts.ensures.history in
    subst (λ (l : List _). CrewRuns ran (map given before) (map given l) stopped) (sym c.told.ensures.crew)
    (crew_runs given plan board.history (bads g c) before now ran c.drain_by-done.result.drained stopped c.drain_by-done.ensures.many
    (subst (λ (events : List CoreEvent). map Some ran ≡ map (name_in plan.rules) (claims events)) here c.told.ensures.named)
    (subst (λ (events : List CoreEvent). map command_of ran ≡ commands plan events) here c.told.ensures.ran)
    c.drain_by-done.ensures.below (λ seat there. seat_stopped g c seat cause.Memory there) (c.drain_by-done.ensures.ran tells) (λ one d. (c.drain_by-done.ensures.alone one).ran tells d) (stops_by g c))

-- ---- what it promises

-- the rules that are named were run
names_run : (g : Over) (c : After-told g) → map command_of c.told.result.log.ran ≡ commands (plan_of c.drain_by-done.result.board) c.drain_by-done.result.board.history
names_run g c =
    let ran = c.told.result.log.ran in
    let history = c.drain_by-done.result.board.history in
    subst (λ (p : Plan). map command_of ran ≡ commands p history) (sym (plan_is g c))
    (subst (λ (events : List CoreEvent). map command_of ran ≡ commands c.args.plan.now events) c.into_parts-parts.ensures.history c.told.ensures.ran)

-- where nothing stopped it, nothing is pending
all_done : (g : Over) (c : After-told g) → c.told.result.stopped ≡ None → IsAcyclic (plan_of c.drain_by-done.result.board).rules → (number : ℕ) → (state c.drain_by-done.result.board).pending number ≡ false
all_done g c none acyclic =
    let done = done_by c.args.plan.now (state c.drain_by-done.result.board) c.drain_by-done.result.drained c.told.result.stopped (has_bad g c) c.drain_by-done.ensures.drains (stops_by g c) none in
    c.drain_by-done.ensures.done (subst (λ (p : Plan). IsAcyclic p.rules) (plan_is g c) acyclic) done

-- its graph is read from its store, unless a commit was lost
graph_read : (g : Over) (c : After-told g) → let graph = c.drain_by-done.result.board.graph in IsTrue (is_fresh graph) → IsGraphOf (entries_in graph.table) graph.nodes
graph_read g c =
    let graph = c.into_parts-parts.result.graph in
    subst (λ (h : Held). IsTrue (is_fresh h) → IsGraphOf (entries_in h.table) h.nodes) c.into_parts-parts.ensures.graph
    (λ fresh. subst (λ (nodes : GraphState). IsGraphOf (entries_in graph.table) nodes) c.nodes.ensures.value (c.nodes.ensures.graph fresh))

-- the bad verdict at which it stopped
bad_at : (g : Over) (c : After-told g) (name : RuleName) (verdict : Verdict) → c.told.result.stopped ≡ Some (stop.Bad name verdict) → StopsAtBad c.args.plan.now.rules (bads g c) name verdict
bad_at g c name verdict is = stops_at_bad c.args.plan.now.rules (bads g c) c.drain_by-done.result.drained c.told.result.stopped (stops_by g c) name verdict is

has_name : (g : Over) (c : After-told g) (name : RuleName) (verdict : Verdict) (at : StopsAtBad c.args.plan.now.rules (bads g c) name verdict) → HasName (plan_of c.drain_by-done.result.board).rules at.at name
has_name g c name verdict at = subst (λ (p : Plan). HasName p.rules at.at name) (sym (plan_is g c)) (at.rule, at.is.here, sym at.name_is)

-- what the log tells of the ends on the board
log_tells : (g : Over) (c : After-told g) → TellsFor (told_ends (plan_of c.drain_by-done.result.board).rules (ends c.drain_by-done.result.board.history)) [] c.told.result.log.ended c.told.result.stopped
log_tells g c =
    let board = c.drain_by-done.result.board in
    let ended = c.told.result.log.ended in
    let stopped = c.told.result.stopped in
    subst (λ (p : Plan). TellsFor (told_ends p.rules (ends board.history)) [] ended stopped) (sym (plan_is g c))
    (subst (λ (events : List CoreEvent). TellsFor (told_ends c.args.plan.now.rules (ends events)) [] ended stopped) c.into_parts-parts.ensures.history c.told.ensures.tells)

-- what it tells of bad rules is noted there
log_bads : (g : Over) (c : After-told g) → All (IsNotedAs (plan_of c.drain_by-done.result.board).rules (bads g c)) c.told.result.log.ended
log_bads g c =
    let board = c.drain_by-done.result.board in
    log_noted (plan_of board) (finite.entries board.opening.graph.nodes.seen) board.history c.into_parts-parts.ensures.keeps.run c.told.result.log.ended c.told.result.stopped (log_tells g c)

-- and what it tells of good ones was to be run, and isn't pending there
log_goods : (g : Over) (c : After-told g) → All (IsGoneAs (plan_of c.drain_by-done.result.board) (state c.drain_by-done.result.board).pending) c.told.result.log.ended
log_goods g c =
    let board = c.drain_by-done.result.board in
    log_gone (plan_of board) (finite.entries board.opening.graph.nodes.seen) board.history c.into_parts-parts.ensures.keeps.run c.told.result.log.ended c.told.result.stopped (log_tells g c)

pub returns-clause-promised : goal.returns-clause-promised
returns-clause-promised g c = λ old tells means was.
    let board = c.drain_by-done.result.board in
    let next = g.R.Runner.next in
    let first = g.S.Site.world old in
    let since = g.S.Site.moment old in
    let ran = c.told.result.log.ran in
    let stopped = c.told.result.stopped in
    let keep_going = c.args.plan.now.keep_going in
    let opened : WasPrepared g.S.Site next old board.opening.graph board.opening.site =
    subst (λ (o : Opening _). WasPrepared g.S.Site next old o.graph o.site) (sym c.drain_by-done.ensures.opening) was in
    let once : OutputsOnce (plan_of board).rules = subst (λ (p : Plan). OutputsOnce p.rules) (sym (plan_is g c)) c.requires.once in
    let keeps = c.into_parts-parts.ensures.keeps in
    let runs : RunsAll next keep_going (jobs g c) first ran stopped =
    runs_all_by next keep_going (jobs g c) first ran stopped
    (λ none. c.done_ran_all.ensures board first since ran keeps opened.prepared (names_run g c) (all_done g c none))
    (λ name verdict is going. c.bad_ran_all_it_could.ensures board first since ran tells means keeps opened.prepared (names_run g c) c.drain_by-done.ensures.over
    (goes_on c.args.plan.now (state board) c.drain_by-done.result.drained stopped (has_bad g c) c.drain_by-done.ensures.drains (stops_by g c) name verdict is going))
    (λ name verdict is off one. let at = bad_at g c name verdict is in
    c.bad_stands_last.ensures board 0 at.at verdict name ran keeps (names_run g c) ((c.drain_by-done.ensures.alone one).own) (ap (λ (p : Plan). p.keep_going) (plan_is g c) ∙ off) at.is.came
    (has_name g c name verdict at)) in
    subst (λ at. Promises g.S.Site g.R.Runner keep_going (jobs g c) old at c.told.result.log stopped) (sym (c.told.ensures.site ∙ c.into_parts-parts.ensures.site)) (record {
      files = files_by next first (g.S.Site.world board.site) stopped (λ none.
          c.done_is_finished.ensures board first since tells means keeps (graph_read g c) opened.prepared once (all_done g c none));
      needed = c.ran_what_was_due.ensures board first since keep_going (jobs g c) ran stopped tells means keeps opened.prepared (names_run g c) runs;
      crashes = c.boards_leave_crashes.ensures board old tells means keeps opened.prepared once opened.owns;
      states = c.boards_leave_states.ensures board first since tells means keeps opened.prepared once opened.states;
      blamed = blames_rules next first (g.S.Site.world board.site) ran stopped (stops_running c.args.plan.now.rules (bads g c) c.drain_by-done.result.drained stopped (stops_by g c)) (λ name verdict is.
          let at = bad_at g c name verdict is in
          c.bad_rules_are_bad.ensures board first since at.at ran name verdict tells means keeps opened.prepared (names_run g c) at.is.came (has_name g c name verdict at))
          (large_there c.args.plan.now.rules (bads g c) g.S.Site g.R.Runner board keeps tells c.drain_by-done.result.drained stopped c.drain_by-done.ensures.drains (stops_by g c));
      bads = All-weaker (IsNotedAs (plan_of board).rules (bads g c)) (IsTrueEnd next first ran) (λ one noted is_bad.
          let it = noted is_bad in
          c.bad_rules_are_bad.ensures board first since it.0 ran one.rule one.verdict tells means keeps opened.prepared (names_run g c) it.2 it.1)
          c.told.result.log.ended (log_bads g c);
      first = blames_first first c.told.result.log stopped (λ name verdict is.
          let at = bad_at g c name verdict is in
          first_blamed first (plan_of board).rules (asked g.S.Site g.R.Runner board keeps ran (names_run g c) next first since opened.prepared) (bads g c) at.at at.is.first name (has_name g c name verdict at) c.told.result.log.ended
          (log_bads g c));
      left = good_ends next first (g.S.Site.world board.site) (plan_of board) (asked g.S.Site g.R.Runner board keeps ran (names_run g c) next first since opened.prepared)
          (c.boards_leave_due.ensures.asked board first since tells means keeps (graph_read g c) opened.prepared once) (state board).pending
          (λ number rule here reached gone. c.settled_rules_are_made.ensures board first since number rule tells means keeps opened.prepared here reached gone)
          (λ number. c.boards_leave_due.ensures.pending board first since number tells means keeps (graph_read g c) opened.prepared once)
          (λ number. c.boards_leave_due.ensures.before board first since number tells means keeps (graph_read g c) opened.prepared once) c.told.result.log (log_goods g c);
      full = full_by g.S.Site next old board.site ran stopped (λ is.
          c.full_is_true.ensures board first since ran tells means keeps opened.prepared (names_run g c)
          (stopped_full c.args.plan.now.rules (bads g c) (state board) c.drain_by-done.result.drained stopped c.drain_by-done.ensures.drains (stops_by g c) is));
      kept = c.boards_are_kept.ensures board first since tells means keeps (graph_read g c) opened.prepared once;
      settled = λ none. c.done_is_settled.ensures board first since tells means keeps (graph_read g c) opened.prepared once (all_done g c none);
    })

pub returns-clause-sources : goal.returns-clause-sources
returns-clause-sources g c = λ next old tells prepared.
    let board = c.drain_by-done.result.board in
    let opened : IsPrepared g.S.Site next (g.S.Site.world old) (g.S.Site.moment old) board.opening.graph board.opening.site =
    subst (λ (o : Opening _). IsPrepared g.S.Site next (g.S.Site.world old) (g.S.Site.moment old) o.graph o.site) (sym c.drain_by-done.ensures.opening) prepared in
    subst (λ at. SourcesStay g.S.Site old at) (sym (c.told.ensures.site ∙ c.into_parts-parts.ensures.site))
    (c.boards_leave_sources.ensures next board old tells c.into_parts-parts.ensures.keeps opened)

-- ---- what its log says

pub returns-clause-logged : goal.returns-clause-logged
returns-clause-logged g c =
    let board = c.drain_by-done.result.board in
    let told = c.told in
    let here = c.into_parts-parts.ensures.history in
    board_logged board c.args.plan.now (plan_is g c) c.into_parts-parts.ensures.keeps.run (jobs g c) c.drain_by-done.ensures.below c.drain_by-done.ensures.over.0 told.result.log c.drain_by-done.result.drained told.result.stopped c.drain_by-done.ensures.drains (stops_by g c)
    (subst (λ (events : List CoreEvent). map Some told.result.log.ran ≡ map (name_in c.args.plan.now.rules) (claims events)) here told.ensures.named)
    (told.ensures.steps ∙ ap steps_of here)
    (subst (λ (events : List CoreEvent). TellsFor (told_ends c.args.plan.now.rules (ends events)) [] told.result.log.ended told.result.stopped) here told.ensures.tells)

pub told-requires-clause-none : goal.told-requires-clause-none
told-requires-clause-none g c = c.requires.none
