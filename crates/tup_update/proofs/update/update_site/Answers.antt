use Rattle.std.proofs.Common.{◌++◌, ℕ, length, map, subst, sym, ◌∙◌}
use Rattle.std.proofs.lemmas.Option.{none-some}
use Rattle.tup_promise.specs.Cause.{CrewCountedCause}
use Rattle.tup_promise.specs.Kept.{KeptHere}
use Rattle.tup_promise.proofs.BadEnds.{none_bad}
use Rattle.tup_promise.proofs.GoodEnds.{none_good}
use Rattle.tup_ends.proofs.Stated.{kept_stated}
use Rattle.tup_ends.proofs.Staying.{sources_kept}
use Rattle.tup_phases.specs.Logged.{ended_rules}
use Rattle.tup_update.proofs.BadEnds.{blames_before}
use Rattle.tup_update.proofs.Chained.{counted, explained, none_counted, none_explained}
use Rattle.tup_update.proofs.Promised.{blames_sources, full_before, runs_before}
use Rattle.tup_update.proofs.Logging.{before_logged, running_spares}
use Rattle.tup_update.proofs.Crewed.{crew_before}
use Rattle.tup_update.proofs.Whole.{before_counted, before_ran, opened_running, within_before, within_running}
use Rattle.tup_update.specs.Promised.{Promises}
use Rattle.tup_update.proofs.Done.{running_did}
use Rattle.tup_update.proofs.update.update_site.Given.{Over}
use Rattle.tup_update.proofs.update.update_site.Goals.{After-run_flagged}
use Rattle.tup_update.proofs.update.update_site.Goals as goal

-- ---- it was brought up to date

pub run_flagged-requires-clause-none : goal.run_flagged-requires-clause-none
run_flagged-requires-clause-none g c κs lives = record { ran = c.prepared.ensures.none.ran ∙ c.new-log.ensures.ran; ended = c.prepared.ensures.none.ended ∙ c.new-log.ensures.ended; steps = c.prepared.ensures.none.steps ∙ c.new-log.ensures.steps }

pub returns-in-Ok-clause-unopened : goal.returns-in-Ok-clause-unopened
returns-in-Ok-clause-unopened g c = λ tells.
    let done = c.run_flagged.result in
    opened_running (g.S.Site.world c.args.site) (g.S.Site.world done.site) done.log done.stopped (c.in-Ok.ensures.unopened tells) c.run_flagged.ensures.stops

pub returns-in-Ok-clause-counted_cause : goal.returns-in-Ok-clause-counted_cause
returns-in-Ok-clause-counted_cause g c =
    let done = c.run_flagged.result in
    subst (λ (n : ℕ). CrewCountedCause (length c.args.crew.items) n (g.S.Site.faults done.site) done.stopped) c.in-Ok.ensures.counted c.run_flagged.ensures.counted

-- all that is promised
promised : (g : Over) (c : After-run_flagged g) → KeptHere g.S.Site g.R.Runner c.args.site → Promises g.S.Site g.R.Runner c.args.asked.keep_going (length c.args.crew.items) c.args.site c.run_flagged.result.site c.run_flagged.result.log c.run_flagged.result.stopped
promised g c here = c.run_flagged.ensures.promised c.args.site here.tells here.means (record {
  prepared = c.in-Ok.ensures.prepared here.tells g.R.Runner.next here.kept;
  owns = c.prepared.ensures.owns here.tells g.R.Runner.next here.kept;
  states = c.in-Ok.ensures.prepared_states here.tells g.R.Runner.next here.kept;
  stored = c.prepared.ensures.states here.tells g.R.Runner.next here.kept;
})

pub returns-in-Ok-clause-exactly_the_files : goal.returns-in-Ok-clause-exactly_the_files
returns-in-Ok-clause-exactly_the_files g c = λ here. (promised g c here).files

pub returns-in-Ok-clause-only_what_is_needed : goal.returns-in-Ok-clause-only_what_is_needed
returns-in-Ok-clause-only_what_is_needed g c = λ here. (promised g c here).needed

pub returns-in-Ok-clause-sources_and_crashes : goal.returns-in-Ok-clause-sources_and_crashes
returns-in-Ok-clause-sources_and_crashes g c = λ here. (promised g c here).crashes

pub returns-in-Ok-clause-states : goal.returns-in-Ok-clause-states
returns-in-Ok-clause-states g c = λ here. (promised g c here).states

pub returns-in-Ok-clause-blamed : goal.returns-in-Ok-clause-blamed
returns-in-Ok-clause-blamed g c = λ here. (promised g c here).blamed

pub returns-in-Ok-clause-bads : goal.returns-in-Ok-clause-bads
returns-in-Ok-clause-bads g c = λ here. (promised g c here).bads

pub returns-in-Ok-clause-first : goal.returns-in-Ok-clause-first
returns-in-Ok-clause-first g c = λ here. (promised g c here).first

pub returns-in-Ok-clause-left : goal.returns-in-Ok-clause-left
returns-in-Ok-clause-left g c = λ here. (promised g c here).left

pub returns-in-Ok-clause-full : goal.returns-in-Ok-clause-full
returns-in-Ok-clause-full g c = λ here. (promised g c here).full

pub returns-in-Ok-clause-kept : goal.returns-in-Ok-clause-kept
returns-in-Ok-clause-kept g c = λ here. (promised g c here).kept

pub returns-in-Ok-clause-settled : goal.returns-in-Ok-clause-settled
returns-in-Ok-clause-settled g c = λ here. (promised g c here).settled

pub returns-in-Ok-clause-sources_stay : goal.returns-in-Ok-clause-sources_stay
returns-in-Ok-clause-sources_stay g c = λ tells some. c.run_flagged.ensures.sources some.0 c.args.site tells (c.in-Ok.ensures.prepared tells some.0 some.1)

-- ---- it stopped before any rule was run

pub returns-in-Err-clause-kept : goal.returns-in-Err-clause-kept
returns-in-Err-clause-kept g c = λ here. c.prepared.ensures.kept here.tells g.R.Runner.next here.kept

pub returns-in-Err-clause-sources_and_crashes : goal.returns-in-Err-clause-sources_and_crashes
returns-in-Err-clause-sources_and_crashes g c = λ here. record {
  later = (c.prepared.ensures.crash here.tells g.R.Runner.next here.kept).began;
  kept = (c.prepared.ensures.crash here.tells g.R.Runner.next here.kept).kept;
  owned = c.prepared.ensures.owns here.tells g.R.Runner.next here.kept;
}

pub returns-in-Err-clause-states : goal.returns-in-Err-clause-states
returns-in-Err-clause-states g c = λ here.
    kept_stated g.R.Runner.next (g.S.Site.world c.args.site) (g.S.Site.world c.prepared.new.site) (c.prepared.ensures.states here.tells g.R.Runner.next here.kept)

pub returns-in-Err-clause-blamed : goal.returns-in-Err-clause-blamed
returns-in-Err-clause-blamed g c = λ here.
    blames_sources g.R.Runner.next (g.S.Site.world c.args.site) (g.S.Site.world c.prepared.new.site) c.prepared.new.log.ran c.in-Err.stop c.in-Err.ensures.stops (c.in-Err.ensures.blame here.tells g.R.Runner.next here.kept)

pub returns-in-Err-clause-bads : goal.returns-in-Err-clause-bads
returns-in-Err-clause-bads g c = λ here. none_bad g.R.Runner.next (g.S.Site.world c.args.site) c.prepared.new.log (c.prepared.ensures.none.ended ∙ c.new-log.ensures.ended)

pub returns-in-Err-clause-first : goal.returns-in-Err-clause-first
returns-in-Err-clause-first g c = λ here. blames_before (g.S.Site.world c.args.site) c.prepared.new.log c.in-Err.stop c.in-Err.ensures.stops

pub returns-in-Err-clause-left : goal.returns-in-Err-clause-left
returns-in-Err-clause-left g c = λ here.
    none_good g.R.Runner.next (g.S.Site.world c.args.site) (g.S.Site.world c.prepared.new.site) c.prepared.new.log (c.prepared.ensures.none.ended ∙ c.new-log.ensures.ended) (c.prepared.ensures.none.ran ∙ c.new-log.ensures.ran)

pub returns-in-Err-clause-full : goal.returns-in-Err-clause-full
returns-in-Err-clause-full g c = λ here.
    full_before g.S.Site g.R.Runner.next c.args.site c.prepared.new.site c.prepared.new.log.ran c.in-Err.stop (c.prepared.ensures.none.ran ∙ c.new-log.ensures.ran) (c.in-Err.ensures.full here.tells g.R.Runner.next here.kept)

pub returns-in-Err-clause-only_what_is_needed : goal.returns-in-Err-clause-only_what_is_needed
returns-in-Err-clause-only_what_is_needed g c = λ here. record {
  runs = runs_before g.R.Runner.next c.args.asked.keep_going (length c.args.crew.items) (g.S.Site.world c.args.site) c.prepared.new.log.ran c.in-Err.stop c.in-Err.ensures.stops (c.prepared.ensures.none.ran ∙ c.new-log.ensures.ran);
  flagged = c.prepared.ensures.due here.tells g.R.Runner.next here.kept;
}

pub returns-in-Err-clause-sources_stay : goal.returns-in-Err-clause-sources_stay
returns-in-Err-clause-sources_stay g c = λ tells some.
    let new = c.prepared.new.site in
    let crash = c.prepared.ensures.crash tells some.0 some.1 in
    sources_kept g.S.Site some.0 (g.S.Site.known new) c.args.site new crash.began crash.kept

pub returns-in-Err-clause-counted_cause : goal.returns-in-Err-clause-counted_cause
returns-in-Err-clause-counted_cause g c = before_counted (length c.args.crew.items) (g.S.Site.faults c.args.site) (g.S.Site.faults c.prepared.new.site) c.in-Err.stop c.in-Err.ensures.stops c.in-Err.ensures.counted

pub returns-in-Err-clause-run_cause : goal.returns-in-Err-clause-run_cause
returns-in-Err-clause-run_cause g c = crew_before (map g.R.Runner.faults c.args.crew.items) c.in-Err.stop c.in-Err.ensures.stops

pub returns-in-Err-clause-ran : goal.returns-in-Err-clause-ran
returns-in-Err-clause-ran g c = λ tells. before_ran c.prepared.new.log.ran (map g.R.Runner.ran c.args.crew.items) c.in-Err.stop (c.prepared.ensures.none.ran ∙ c.new-log.ensures.ran)

-- ---- what its log says, and which files stay

pub returns-in-Err-clause-logged : goal.returns-in-Err-clause-logged
returns-in-Err-clause-logged g c =
    let none = c.prepared.ensures.none in
    before_logged (length c.args.crew.items) c.requires.crew.0 c.args.asked.keep_going c.prepared.new.log c.in-Err.stop c.in-Err.ensures.stops (record { ran = none.ran ∙ c.new-log.ensures.ran; ended = none.ended ∙ c.new-log.ensures.ended; steps = none.steps ∙ c.new-log.ensures.steps }) c.in-Err.ensures.logged

pub returns-in-Ok-clause-spares : goal.returns-in-Ok-clause-spares
returns-in-Ok-clause-spares g c = λ tells.
    let done = c.run_flagged.result in
    running_spares (g.S.Site.world c.args.site) (g.S.Site.world done.site) done.stopped c.run_flagged.ensures.stops

-- ---- what a crash may leave of a store that can't be read

pub returns-in-Ok-clause-closed : goal.returns-in-Ok-clause-closed
returns-in-Ok-clause-closed g c = λ tells closed. absurd (closed (c.in-Ok.ensures.unopened tells))

pub returns-in-Err-clause-closed : goal.returns-in-Err-clause-closed
returns-in-Err-clause-closed g c = λ tells closed. c.prepared.ensures.closed tells closed

-- ---- where a file of the user's stands at a path that no rule makes

pub returns-in-Ok-clause-users : goal.returns-in-Ok-clause-users
returns-in-Ok-clause-users g c = λ tells some has. absurd (c.in-Ok.ensures.held tells some.0 some.1 has)

pub returns-in-Err-clause-users : goal.returns-in-Err-clause-users
returns-in-Err-clause-users g c = λ tells some has. record {
  stops = λ none. none-some c.in-Err.stop (sym none);
  none = c.prepared.ensures.none.ran ∙ c.new-log.ensures.ran;
  files = c.prepared.ensures.users tells some.0 some.1 has;
  crash = c.prepared.ensures.trees tells some.0 some.1 has;
}

-- ---- the limits

pub returns-in-Ok-clause-limits : goal.returns-in-Ok-clause-limits
returns-in-Ok-clause-limits g c = λ tells. within_running (g.S.Site.world c.args.site) c.run_flagged.result.stopped (c.in-Ok.ensures.limits tells)

pub returns-in-Err-clause-limits : goal.returns-in-Err-clause-limits
returns-in-Err-clause-limits g c = λ tells. within_before (g.S.Site.world c.args.site) c.in-Err.stop c.in-Err.ensures.stops

-- ---- what it says of why

pub returns-in-Ok-clause-why : goal.returns-in-Ok-clause-why
returns-in-Ok-clause-why g c = λ tells some asked.
    let done = c.run_flagged.result in
    let said = c.run_flagged.ensures.said in (
      said.0,
      explained g.S.Site some.0 c.args.site c.in-Ok.graph c.prepared.new.site (ended_rules done.log ++ said.0) done.because (λ nodes plan. c.none_waits_for_itself.ensures nodes plan) (record {
        prepared = c.in-Ok.ensures.prepared tells some.0 some.1;
        owns = c.prepared.ensures.owns tells some.0 some.1;
        states = c.in-Ok.ensures.prepared_states tells some.0 some.1;
        stored = c.prepared.ensures.states tells some.0 some.1;
      }) (c.in-Ok.ensures.records tells some.0 some.1) (said.1.asked asked),
    )

pub returns-in-Ok-clause-because : goal.returns-in-Ok-clause-because
returns-in-Ok-clause-because g c =
    let done = c.run_flagged.result in
    let said = c.run_flagged.ensures.said in
    (said.0, counted c.args.asked.explain c.in-Ok.graph.nodes (ended_rules done.log ++ said.0) done.because said.1)

pub returns-in-Err-clause-why : goal.returns-in-Err-clause-why
returns-in-Err-clause-why g c = λ tells some asked. none_explained g.S.Site c.args.site c.prepared.new.log c.new.result (c.prepared.ensures.none.ended ∙ c.new-log.ensures.ended) c.new.ensures

pub returns-in-Err-clause-because : goal.returns-in-Err-clause-because
returns-in-Err-clause-because g c = none_counted c.args.asked.explain c.prepared.new.log c.new.result (c.prepared.ensures.none.ended ∙ c.new-log.ensures.ended) c.new.ensures

-- ---- which Tupfiles it read, and which files it removed

pub returns-in-Ok-clause-did : goal.returns-in-Ok-clause-did
returns-in-Ok-clause-did g c = λ tells some.
    let done = c.run_flagged.result in
    running_did (g.S.Site.world c.args.site) c.prepared.new.log done.log (c.in-Ok.ensures.did tells some.0 some.1) c.run_flagged.ensures.only_runs done.stopped c.run_flagged.ensures.stops

pub returns-in-Err-clause-did : goal.returns-in-Err-clause-did
returns-in-Err-clause-did g c = λ tells some. c.in-Err.ensures.did tells some.0 some.1
