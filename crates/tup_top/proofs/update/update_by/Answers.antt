use Rattle.std.proofs.Common.{ℕ, List, map, take, Some, inl, refl, sym, ap, subst, arith}
use Rattle.std.proofs.lemmas.Option.{none-some}
use Rattle.tup_site.specs.World.{TreeStays}
use Rattle.tup_site.specs.declared.fault.SiteFailed.TheVariants.{Memory as NoMemory}
use Rattle.tup_table.specs.Images.{OpenStep}
use Rattle.tup_stale.proofs.Going.{at_rest}
use Rattle.tup_promise.specs.Needed.{OnlyWhatIsNeeded}
use Rattle.tup_promise.specs.Ran.{CrewRuns}
use Rattle.tup_promise.specs.declared.stop.Stop.TheVariants.{Outside}
use Rattle.tup_ends.proofs.Staying.{sources_kept}
use Rattle.tup_top.specs.Printed.{PrintsUpdate, SaysWhyOf}
use Rattle.tup_top.specs.Promise.{Logs}
use Rattle.tup_top.specs.Status.{IfCame}
use Rattle.tup_top.specs.Telling.{Hears, TellsUpdate}
use Rattle.tup_top.specs.Truth.{IsTrueLog}
use Rattle.tup_top.specs.declared.status.Status.TheVariants.{Memory}
use Rattle.tup_top.proofs.Causes.{nothing_logged, says_none}
use Rattle.tup_top.proofs.Idle.{no_logs, no_opening, no_prints}
use Rattle.tup_top.proofs.Parted.{apart_long, as_many, counted_by, first_now, is_long, no_runs, others_now}
use Rattle.tup_top.proofs.Reported.{tells_nothing, unheard}
use Rattle.tup_top.proofs.True.{nothing_true}
use Rattle.tup_top.proofs.Untouched.{untouched_crashes, untouched_needed, untouched_states}
use Rattle.tup_top.proofs.update.update_by.Goals as goal

-- those that work are a crew

pub part_off-requires : goal.part_off-requires
part_off-requires g c = c.requires.jobs.1

pub rejoined-requires : goal.rejoined-requires
rejoined-requires g c =
    let long = is_long c.args.crew.items c.part_off.new.list.items c.args.jobs c.requires.jobs.1 c.in-Ok.ensures.kept in
    let many = c.update-status.ensures.crew in
    let apart = apart_long c.args.crew.items c.in-Ok.others.items c.args.jobs c.in-Ok.ensures.apart in
    let room = c.in-Ok.ensures.room in
    omega (arith, long, many, apart, room, c.requires.jobs.1)

-- what they did is what the crew did

pub returns-in-Ok-clause-only_what_is_needed : goal.returns-in-Ok-clause-only_what_is_needed
returns-in-Ok-clause-only_what_is_needed g c = λ here.
    let update = c.update-status in
    let long = is_long c.args.crew.items c.part_off.new.list.items c.args.jobs c.requires.jobs.1 c.in-Ok.ensures.kept in
    subst (λ (n : ℕ). IfCame update.result.status (OnlyWhatIsNeeded g.R.Runner.next c.args.asked.keep_going n (g.S.Site.world c.args.site) (g.S.Site.world update.result.site) update.result.ran)) long
    (update.ensures.only_what_is_needed here)

pub returns-in-Ok-clause-logged : goal.returns-in-Ok-clause-logged
returns-in-Ok-clause-logged g c =
    let update = c.update-status in
    let long = is_long c.args.crew.items c.part_off.new.list.items c.args.jobs c.requires.jobs.1 c.in-Ok.ensures.kept in
    subst (λ (n : ℕ). IfCame update.result.status (Logs n c.args.asked.keep_going update.result.ran)) long update.ensures.logged

pub returns-in-Ok-clause-printed : goal.returns-in-Ok-clause-printed
returns-in-Ok-clause-printed g c = λ shows.
    let update = c.update-status in
    let long = is_long c.args.crew.items c.part_off.new.list.items c.args.jobs c.requires.jobs.1 c.in-Ok.ensures.kept in
    let says = SaysWhyOf g.S.Site c.args.site c.args.asked.explain in
    let hears = Hears g.T.Reporter.told g.T.Reporter.faults c.args.tellers.now.items update.new.tellers.items update.result.failed.items in
    subst (λ (n : ℕ). PrintsUpdate n g.S.Site.tells c.args.asked.keep_going says (IsTrueLog g.S.Site g.R.Runner c.args.site (g.S.Site.world update.result.site)) hears (g.S.Site.world c.args.site) (g.S.Site.world update.result.site) update.result.ran (g.K.Sink.faults c.args.out.now) (g.K.Sink.faults update.new.out)
    (g.K.Sink.held c.args.out.now) (g.K.Sink.held update.new.out) update.result.status) long (update.ensures.printed shows)

pub returns-in-Ok-clause-tells : goal.returns-in-Ok-clause-tells
returns-in-Ok-clause-tells g c =
    let update = c.update-status in
    let long = is_long c.args.crew.items c.part_off.new.list.items c.args.jobs c.requires.jobs.1 c.in-Ok.ensures.kept in
    let hears = Hears g.T.Reporter.told g.T.Reporter.faults c.args.tellers.now.items update.new.tellers.items update.result.failed.items in
    subst (λ (n : ℕ). TellsUpdate n g.S.Site.tells c.args.asked.keep_going (IsTrueLog g.S.Site g.R.Runner c.args.site (g.S.Site.world update.result.site)) hears (g.S.Site.world c.args.site) (g.S.Site.world update.result.site) update.result.ran (g.K.Sink.faults c.args.out.now) (g.K.Sink.faults update.new.out)
    update.result.status) long update.ensures.tells

pub returns-in-Ok-clause-blamed_reporter : goal.returns-in-Ok-clause-blamed_reporter
returns-in-Ok-clause-blamed_reporter g c = c.update-status.ensures.blamed_reporter

pub returns-in-Ok-clause-counted_cause : goal.returns-in-Ok-clause-counted_cause
returns-in-Ok-clause-counted_cause g c =
    let update = c.update-status in
    counted_by c.args.crew.items c.part_off.new.list.items c.in-Ok.others.items update.result.crew.items c.rejoined.result.items c.args.jobs c.requires.jobs.1 c.in-Ok.ensures.kept c.in-Ok.ensures.apart update.ensures.crew c.rejoined.ensures
    g.R.Runner.faults (g.S.Site.faults c.args.site) (g.S.Site.faults update.result.site) (g.K.Sink.faults c.args.out.now) (g.K.Sink.faults update.new.out) update.result.status update.ensures.counted_cause

pub returns-in-Ok-clause-ran : goal.returns-in-Ok-clause-ran
returns-in-Ok-clause-ran g c = λ tells.
    let update = c.update-status in
    let now = first_now c.args.crew.items c.part_off.new.list.items c.in-Ok.others.items update.result.crew.items c.rejoined.result.items c.args.jobs c.requires.jobs.1 c.in-Ok.ensures.kept c.in-Ok.ensures.apart update.ensures.crew c.rejoined.ensures in
    subst (λ (l : List g.row.R.Denot). IfCame update.result.status (CrewRuns update.result.ran (map g.R.Runner.ran l) (map g.R.Runner.ran (take c.args.jobs c.rejoined.result.items)))) c.in-Ok.ensures.kept
    (subst (λ (l : List g.row.R.Denot). IfCame update.result.status (CrewRuns update.result.ran (map g.R.Runner.ran c.part_off.new.list.items) (map g.R.Runner.ran l))) (sym now) (update.ensures.ran tells))

pub returns-in-Ok-clause-crew : goal.returns-in-Ok-clause-crew
returns-in-Ok-clause-crew g c =
    as_many c.args.crew.items c.part_off.new.list.items c.in-Ok.others.items c.update-status.result.crew.items c.rejoined.result.items c.args.jobs c.requires.jobs.1 c.in-Ok.ensures.kept c.in-Ok.ensures.apart c.update-status.ensures.crew c.rejoined.ensures

pub returns-in-Ok-clause-others : goal.returns-in-Ok-clause-others
returns-in-Ok-clause-others g c =
    others_now c.args.crew.items c.part_off.new.list.items c.in-Ok.others.items c.update-status.result.crew.items c.rejoined.result.items c.args.jobs c.requires.jobs.1 c.in-Ok.ensures.kept c.in-Ok.ensures.apart c.update-status.ensures.crew c.rejoined.ensures

-- no memory to part them: nothing was done

pub returns-in-Err-clause-opens_store : goal.returns-in-Err-clause-opens_store
returns-in-Err-clause-opens_store g c = λ _. no_opening (g.S.Site.world c.args.site) c.new.result c.new.ensures

pub returns-in-Err-clause-closed : goal.returns-in-Err-clause-closed
returns-in-Err-clause-closed g c = λ _ _. at_rest g.S.Site.moment g.S.Site.left_since c.args.site OpenStep

pub returns-in-Err-clause-only_what_is_needed : goal.returns-in-Err-clause-only_what_is_needed
returns-in-Err-clause-only_what_is_needed g c = λ here.
    untouched_needed g.S.Site g.R.Runner c.args.site here c.flags_are_of_rules.ensures c.args.asked.keep_going c.args.jobs c.new.result c.new.ensures

pub returns-in-Err-clause-settled : goal.returns-in-Err-clause-settled
returns-in-Err-clause-settled g c = λ _ done. cc done

pub returns-in-Err-clause-sources_and_crashes : goal.returns-in-Err-clause-sources_and_crashes
returns-in-Err-clause-sources_and_crashes g c = λ here. untouched_crashes g.S.Site g.R.Runner c.args.site here

pub returns-in-Err-clause-states : goal.returns-in-Err-clause-states
returns-in-Err-clause-states g c = λ here. untouched_states g.S.Site g.R.Runner c.args.site here

pub returns-in-Err-clause-kept : goal.returns-in-Err-clause-kept
returns-in-Err-clause-kept g c = λ here. here.kept

pub returns-in-Err-clause-sources_stay : goal.returns-in-Err-clause-sources_stay
returns-in-Err-clause-sources_stay g c = λ _ some. let site = c.args.site in sources_kept g.S.Site some.0 (g.S.Site.known site) site site (omega arith) some.1

pub returns-in-Err-clause-users : goal.returns-in-Err-clause-users
returns-in-Err-clause-users g c = λ _ _ _.
    record { stops = λ none. none-some _ (sym none); none = c.new.ensures; files = refl; crash = at_rest g.S.Site.moment g.S.Site.left_since c.args.site TreeStays }

pub returns-in-Err-clause-logged : goal.returns-in-Err-clause-logged
returns-in-Err-clause-logged g c = no_logs c.args.jobs c.args.asked.keep_going c.new.result c.new.ensures

pub returns-in-Err-clause-counted_cause : goal.returns-in-Err-clause-counted_cause
returns-in-Err-clause-counted_cause g c =
    let same = ap (map g.R.Runner.faults) c.in-Err.ensures.untouched in
    record { any = tt; alone = λ _. inl (refl, same) }

pub returns-in-Err-clause-ran : goal.returns-in-Err-clause-ran
returns-in-Err-clause-ran g c = λ _.
    let lists = map g.R.Runner.ran (take c.args.jobs c.args.crew.items) in
    subst (λ (l : List g.row.R.Denot). CrewRuns c.new.result lists (map g.R.Runner.ran (take c.args.jobs l)) (Some (Outside NoMemory))) (sym c.in-Err.ensures.untouched) (no_runs lists c.new.result c.new.ensures)

pub returns-in-Err-clause-printed : goal.returns-in-Err-clause-printed
returns-in-Err-clause-printed g c = λ _.
    let tellers = c.args.tellers.now.items in
    let told = g.T.Reporter.told in
    let faults = g.T.Reporter.faults in
    no_prints c.args.jobs g.S.Site.tells c.args.asked.keep_going c.args.asked.explain (SaysWhyOf g.S.Site c.args.site) (says_none g.S.Site c.args.site) (IsTrueLog g.S.Site g.R.Runner c.args.site (g.S.Site.world c.args.site)) (nothing_true g.S.Site g.R.Runner c.args.site (g.S.Site.world c.args.site)) (Hears told faults tellers tellers c.nobody.result.items)
    (unheard told faults tellers c.nobody.result.items c.nobody.ensures nothing_logged Memory) (g.S.Site.world c.args.site) c.new.result (g.K.Sink.faults c.args.out.now) (g.K.Sink.held c.args.out.now) c.new.ensures

pub returns-in-Err-clause-tells : goal.returns-in-Err-clause-tells
returns-in-Err-clause-tells g c =
    let tellers = c.args.tellers.now.items in
    let told = g.T.Reporter.told in
    let faults = g.T.Reporter.faults in
    tells_nothing c.args.jobs g.S.Site.tells c.args.asked.keep_going (IsTrueLog g.S.Site g.R.Runner c.args.site (g.S.Site.world c.args.site)) (nothing_true g.S.Site g.R.Runner c.args.site (g.S.Site.world c.args.site)) (Hears told faults tellers tellers c.nobody.result.items) (unheard told faults tellers c.nobody.result.items c.nobody.ensures nothing_logged Memory)
    (g.S.Site.world c.args.site) c.new.result c.new.ensures (g.K.Sink.faults c.args.out.now) (g.K.Sink.faults c.args.out.now)

pub returns-in-Err-clause-blamed_reporter : goal.returns-in-Err-clause-blamed_reporter
returns-in-Err-clause-blamed_reporter g c = λ is _. absurd (cc is)
