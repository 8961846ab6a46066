use Rattle.std.proofs.Common.{ℕ, List, Option, length, map, refl, subst, sym}
use Rattle.std.proofs.lemmas.Option.{none-some}
use Rattle.tup_promise.specs.Blamed.{IsToBlame}
use Rattle.tup_promise.specs.Cause.{IsWithin}
use Rattle.tup_promise.specs.Finished.{IsSettled, ExactlyTheFiles}
use Rattle.tup_promise.specs.Needed.{OnlyWhatIsNeeded}
use Rattle.tup_promise.specs.Ran.{CrewRuns}
use Rattle.tup_promise.specs.Users.{IsHeldUp}
use Rattle.tup_update.specs.Full.{HasFullCause}
use Rattle.tup_top.specs.Lines.{lines}
use Rattle.tup_top.specs.Printed.{Prints}
use Rattle.tup_top.specs.Promise.{Logs, OnceDone, OpensStore, Spares}
use Rattle.tup_top.proofs.Causes.{answered_told, crew_answers, logs_so, opens_so, untold_crew}
use Rattle.tup_top.proofs.update.update.Goals as goal

pub returns-clause-opens_store : goal.returns-clause-opens_store
returns-clause-opens_store g c = λ tells.
    let update = c.update_site-site in
    let old = g.S.Site.world c.args.site in
    let new = g.S.Site.world update.result.site in
    let opens = update.ensures.unopened tells in
    answered_told (OpensStore old new update.result.log.ran) _ _ _ _ update.result.log update.result.stopped _ _ refl c.tell_all-status.ensures.ends
    update.ensures.counted_cause.any (opens_so old new update.result.log.ran update.result.log refl update.result.stopped opens) (update.result.stopped, update.result.log, refl, opens)

pub returns-clause-logged : goal.returns-clause-logged
returns-clause-logged g c =
    let update = c.update_site-site in
    let ran = update.result.log.ran in
    let jobs = length c.args.crew.items in
    answered_told (Logs jobs c.args.asked.keep_going ran) _ _ _ _ update.result.log update.result.stopped _ _ refl c.tell_all-status.ensures.ends
    update.ensures.counted_cause.any (logs_so jobs c.args.asked.keep_going ran update.result.log refl update.result.stopped update.ensures.logged) (update.result.stopped, update.result.log, refl, update.ensures.logged)

pub returns-clause-spares : goal.returns-clause-spares
returns-clause-spares g c = λ tells.
    let update = c.update_site-site in
    answered_told (Spares (g.S.Site.world c.args.site) (g.S.Site.world update.result.site)) _ _ _ _ update.result.log update.result.stopped _ _ refl c.tell_all-status.ensures.ends
    update.ensures.counted_cause.any (update.ensures.spares tells) tt

pub returns-clause-ran : goal.returns-clause-ran
returns-clause-ran g c = λ tells.
    let update = c.update_site-site in
    let ran = update.result.log.ran in
    let old = map g.R.Runner.ran c.args.crew.items in
    let new = map g.R.Runner.ran update.result.crew.items in
    let runs = update.ensures.ran tells in
    answered_told (CrewRuns ran old new) _ _ _ _ update.result.log update.result.stopped _ _ refl c.tell_all-status.ensures.ends
    update.ensures.counted_cause.any runs (untold_crew ran old new update.result.stopped runs)

pub returns-clause-counted_cause : goal.returns-clause-counted_cause
returns-clause-counted_cause g c =
    let update = c.update_site-site in
    crew_answers g.R.Runner.faults c.args.crew.items update.result.crew.items (g.S.Site.faults c.args.site) (g.S.Site.faults update.result.site) (g.K.Sink.faults c.args.out.now) (g.K.Sink.faults c.tell_all-status.new.out)
    update.result.log update.result.stopped _ _ refl c.tell_all-status.ensures.ends c.tell_all-status.ensures.counted update.ensures.crew update.ensures.counted_cause update.ensures.run_cause

pub returns-clause-printed : goal.returns-clause-printed
returns-clause-printed g c = λ shows.
    let update = c.update_site-site in
    let reports = c.tell_all-status.ensures.reports in
    let prints : List ℕ → Type 0 = λ text. Prints reports.status text (g.K.Sink.faults c.args.out.now) (g.K.Sink.faults c.tell_all-status.new.out) (g.K.Sink.held c.args.out.now) (g.K.Sink.held c.tell_all-status.new.out) c.tell_all-status.result.status in
    record {
      told = record {
        log = update.result.log;
        because = update.result.because;
        said = (update.ensures.because, λ tells kept asked. update.ensures.why tells kept asked);
        stopped = update.result.stopped;
        begun = refl;
        logged = update.ensures.logged;
        so = record { bads = update.ensures.bads; first = update.ensures.first; left = update.ensures.left; did = update.ensures.did };
        unopened = λ tells. update.ensures.unopened tells;
      };
      status = reports.status;
      heard = reports.heard;
      ends = reports.ends;
      prints = subst (λ (chains : List (Option (List ℕ))). prints (lines update.result.log chains reports.status)) c.as_slice.ensures (reports.prints shows);
    }

pub returns-clause-tells : goal.returns-clause-tells
returns-clause-tells g c =
    let update = c.update_site-site in
    let reports = c.tell_all-status.ensures.reports in
    record {
      log = update.result.log;
      stopped = update.result.stopped;
      begun = refl;
      logged = update.ensures.logged;
      so = record { bads = update.ensures.bads; first = update.ensures.first; left = update.ensures.left; did = update.ensures.did };
      unopened = λ tells. update.ensures.unopened tells;
      status = reports.status;
      heard = reports.heard;
      ends = reports.ends;
    }

pub returns-clause-blamed_reporter : goal.returns-clause-blamed_reporter
returns-clause-blamed_reporter g c = c.tell_all-status.ensures.blamed_reporter

pub returns-clause-nobody : goal.returns-clause-nobody
returns-clause-nobody g c = c.tell_all-status.ensures.nobody

-- ---- over a kept site

pub returns-clause-exactly_the_files : goal.returns-clause-exactly_the_files
returns-clause-exactly_the_files g c = λ kept.
    let update = c.update_site-site in
    let old = g.S.Site.world c.args.site in
    let new = g.S.Site.world update.result.site in
    answered_told (ExactlyTheFiles g.R.Runner.next old new) _ _ _ _ update.result.log update.result.stopped _ _ refl c.tell_all-status.ensures.ends update.ensures.counted_cause.any (update.ensures.exactly_the_files kept) tt

pub returns-clause-only_what_is_needed : goal.returns-clause-only_what_is_needed
returns-clause-only_what_is_needed g c = λ kept.
    let update = c.update_site-site in
    let old = g.S.Site.world c.args.site in
    let new = g.S.Site.world update.result.site in
    let needed = update.ensures.only_what_is_needed kept in
    let runs = needed.runs in
    answered_told (OnlyWhatIsNeeded g.R.Runner.next c.args.asked.keep_going (length c.args.crew.items) old new update.result.log.ran) _ _ _ _ update.result.log update.result.stopped _ _ refl c.tell_all-status.ensures.ends update.ensures.counted_cause.any
    needed (record { runs = record { once = runs.once; due = runs.due; in_order = runs.in_order; all = tt }; flagged = needed.flagged })

pub returns-clause-blamed : goal.returns-clause-blamed
returns-clause-blamed g c = λ kept.
    let update = c.update_site-site in
    answered_told (IsToBlame g.R.Runner.next (g.S.Site.world c.args.site) (g.S.Site.world update.result.site) update.result.log.ran) _ _ _ _ update.result.log update.result.stopped _ _ refl c.tell_all-status.ensures.ends update.ensures.counted_cause.any
    (update.ensures.blamed kept) tt

pub returns-clause-full : goal.returns-clause-full
returns-clause-full g c = λ kept.
    let update = c.update_site-site in
    answered_told (HasFullCause g.S.Site g.R.Runner.next c.args.site update.result.site update.result.log.ran) _ _ _ _ update.result.log update.result.stopped _ _ refl c.tell_all-status.ensures.ends update.ensures.counted_cause.any (update.ensures.full kept) tt

pub returns-clause-settled : goal.returns-clause-settled
returns-clause-settled g c = λ kept.
    let update = c.update_site-site in
    answered_told (OnceDone (IsSettled g.S.Site update.result.site)) _ _ _ _ update.result.log update.result.stopped _ _ refl c.tell_all-status.ensures.ends update.ensures.counted_cause.any
    (update.ensures.settled kept) (λ done. cc done)

pub returns-clause-sources_and_crashes : goal.returns-clause-sources_and_crashes
returns-clause-sources_and_crashes g c = c.update_site-site.ensures.sources_and_crashes

pub returns-clause-states : goal.returns-clause-states
returns-clause-states g c = c.update_site-site.ensures.states

pub returns-clause-kept : goal.returns-clause-kept
returns-clause-kept g c = c.update_site-site.ensures.kept

pub returns-clause-sources_stay : goal.returns-clause-sources_stay
returns-clause-sources_stay g c = c.update_site-site.ensures.sources_stay

pub returns-clause-closed : goal.returns-clause-closed
returns-clause-closed g c = c.update_site-site.ensures.closed

pub returns-clause-users : goal.returns-clause-users
returns-clause-users g c = λ tells some has.
    let update = c.update_site-site in
    let held = update.ensures.users tells some has in
    answered_told (IsHeldUp g.S.Site c.args.site update.result.site update.result.log.ran) _ _ _ _ update.result.log update.result.stopped _ _ refl c.tell_all-status.ensures.ends
    update.ensures.counted_cause.any held (record { stops = λ none. none-some _ (sym none); none = held.none; files = held.files; crash = held.crash })

pub returns-clause-limits : goal.returns-clause-limits
returns-clause-limits g c = λ tells.
    let update = c.update_site-site in
    answered_told (IsWithin (g.S.Site.world c.args.site)) _ _ _ _ update.result.log update.result.stopped _ _ refl c.tell_all-status.ensures.ends
    update.ensures.counted_cause.any (update.ensures.limits tells) tt
