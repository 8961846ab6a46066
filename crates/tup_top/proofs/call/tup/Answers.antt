use Rattle.std.proofs.Common.{◌≡◌, ◌∙◌, ◌<◌, ◌≤◌, ℕ, IsTrue, [], ◌∷◌, ap, drop, length, map, take, inl, refl, sym, subst, arith}
use Rattle.std.proofs.lemmas.List.{length-map}
use Rattle.std.specs.Prelude.{slice_set}
use Rattle.std.proofs.lemmas.Option.{none-some}
use Rattle.std.specs.Result.{result_err}
use Rattle.tup_site.specs.Crash.{GoesOn}
use Rattle.tup_site.specs.World.{TreeStays}
use Rattle.tup_ledger.specs.Begin.{Begins}
use Rattle.tup_table.specs.Images.{OpenStep}
use Rattle.tup_stale.proofs.Going.{at_rest}
use Rattle.tup_compare.specs.Compared.{HasCompared}
use Rattle.tup_compare.specs.Opened.{JustOpens}
use Rattle.tup_promise.specs.Blamed.{IsToBlame}
use Rattle.tup_promise.specs.Cause.{IsWithin}
use Rattle.tup_promise.specs.Finished.{IsSettled, ExactlyTheFiles}
use Rattle.tup_promise.specs.Kept.{IsKeptBySome}
use Rattle.tup_promise.specs.Needed.{OnlyWhatIsNeeded}
use Rattle.tup_promise.specs.Users.{IsHeldUp}
use Rattle.tup_ends.proofs.Staying.{sources_kept}
use Rattle.tup_promise.specs.Ran.{CrewRuns}
use Rattle.tup_update.specs.Full.{HasFullCause}
use Rattle.tup_top.specs.Crew.{CrewCompares}
use Rattle.tup_top.specs.Order.{Wanted, goes_on, order, used, used_of}
use Rattle.tup_top.specs.Printed.{Printed, PrintsUpdate, SaysWhyOf}
use Rattle.tup_top.specs.Status.{IfCame}
use Rattle.tup_top.specs.Telling.{Hears, TellsUpdate}
use Rattle.tup_top.specs.Truth.{IsTrueLog}
use Rattle.tup_top.specs.declared.status.Status.TheVariants.{Memory}
use Rattle.tup_top.specs.Promise.{OnceDone, FindsOut, ForTodo, ForUpdate, ForVerify, Lasts, Logs, NothingDone, QuietStep, HasBegunCause, HasComparedCause, HasCrewCause, HasDemoCause, HasPlainCause, IsRefusal, Spares, counts}
use Rattle.tup_top.proofs.Begun.{initializes_so}
use Rattle.tup_top.proofs.Crewed.{crew_compared, crew_compares, no_crew_ran, others_stay}
use Rattle.tup_top.proofs.Parted.{no_runs, used_fits}
use Rattle.tup_top.proofs.Causes.{nothing_logged, says_none}
use Rattle.tup_top.proofs.Idle.{idle, memory_causes, memory_found_out, memory_for_init, memory_for_update, memory_for_verify, memory_logs, memory_opens, memory_prints}
use Rattle.tup_top.proofs.Reported.{tells_no_folder, tells_nothing, unheard}
use Rattle.tup_top.proofs.Success.{compares_so}
use Rattle.tup_top.proofs.Succeeds.{finds_so, updates_so}
use Rattle.tup_top.proofs.True.{nothing_true}
use Rattle.tup_top.proofs.Untouched.{untouched_crashes, untouched_flags, untouched_needed, untouched_states}
use Rattle.tup_top.proofs.call.tup.Goals as goal

-- an update, by as many runners as the words say

pub update_by-status-requires-clause-crew : goal.update_by-status-requires-clause-crew
update_by-status-requires-clause-crew g c κs lives = c.requires.crew

pub update_by-status-requires-clause-jobs : goal.update_by-status-requires-clause-jobs
update_by-status-requires-clause-jobs g c κs lives = subst (λ (n : ℕ). (0 < n) × (n ≤ length c.args.crew.items)) (sym (c.used-jobs.ensures ∙ ap (used_of c.in-Ok-Upd.jobs) (c.len.ensures ∙ c.args.crew.ok.0))) (used_fits c.in-Ok-Upd.jobs (length c.args.crew.items) c.requires.crew.0)

pub returns-in-Ok-Upd-clause-plain_cause : goal.returns-in-Ok-Upd-clause-plain_cause
returns-in-Ok-Upd-clause-plain_cause g c =
    let wanted = rw c.in-Ok-Upd.is at c.order_of.ensures in
    let is = rw c.in-Ok-Upd.field-0-is at wanted in
    let update = c.update_by-status in
    let before = counts g.S.Site.faults g.R.Runner.faults g.K.Sink.faults c.args.site c.args.crew.items c.args.out.now in
    let now = counts g.S.Site.faults g.R.Runner.faults g.K.Sink.faults update.result.site update.result.crew.items update.new.out in
    let jobs = c.used-jobs.ensures ∙ ap (used_of c.in-Ok-Upd.jobs) (c.len.ensures ∙ (c.args.crew.ok.0 ∙ sym (length-map c.args.crew.items g.R.Runner.faults))) in
    subst (λ (w : Wanted). HasPlainCause w before now update.result.status) (sym is) (subst (λ (n : ℕ). HasCrewCause n before now update.result.status) jobs update.ensures.counted_cause)

pub returns-in-Ok-Upd-clause-logged : goal.returns-in-Ok-Upd-clause-logged
returns-in-Ok-Upd-clause-logged g c =
    let wanted = rw c.in-Ok-Upd.is at c.order_of.ensures in
    let is = rw c.in-Ok-Upd.field-0-is at wanted in
    let update = c.update_by-status in
    subst (λ (w : Wanted). ForUpdate w update.result.status (Logs (used w (length c.args.crew.items)) (goes_on w) update.result.ran)) (sym is)
    (subst (λ (n : ℕ). IfCame update.result.status (Logs n c.in-Ok-Upd.keep_going update.result.ran)) (c.used-jobs.ensures ∙ ap (used_of c.in-Ok-Upd.jobs) (c.len.ensures ∙ c.args.crew.ok.0)) update.ensures.logged)

pub returns-in-Ok-Upd-clause-only_what_is_needed : goal.returns-in-Ok-Upd-clause-only_what_is_needed
returns-in-Ok-Upd-clause-only_what_is_needed g c = λ here.
    let wanted = rw c.in-Ok-Upd.is at c.order_of.ensures in
    let is = rw c.in-Ok-Upd.field-0-is at wanted in
    let update = c.update_by-status in
    let old = g.S.Site.world c.args.site in
    let new = g.S.Site.world update.result.site in
    subst (λ (w : Wanted). ForUpdate w update.result.status (OnlyWhatIsNeeded g.R.Runner.next (goes_on w) (used w (length c.args.crew.items)) old new update.result.ran)) (sym is)
    (subst (λ (n : ℕ). IfCame update.result.status (OnlyWhatIsNeeded g.R.Runner.next c.in-Ok-Upd.keep_going n old new update.result.ran)) (c.used-jobs.ensures ∙ ap (used_of c.in-Ok-Upd.jobs) (c.len.ensures ∙ c.args.crew.ok.0)) (update.ensures.only_what_is_needed here))

pub returns-in-Ok-Upd-clause-ran : goal.returns-in-Ok-Upd-clause-ran
returns-in-Ok-Upd-clause-ran g c = λ tells.
    let wanted = rw c.in-Ok-Upd.is at c.order_of.ensures in
    let is = rw c.in-Ok-Upd.field-0-is at wanted in
    let update = c.update_by-status in
    let runs = λ (n : ℕ). CrewRuns update.result.ran (map g.R.Runner.ran (take n c.args.crew.items)) (map g.R.Runner.ran (take n update.result.crew.items)) in
    subst (λ (w : Wanted). ForUpdate w update.result.status (runs (used w (length c.args.crew.items)))) (sym is)
    (subst (λ (n : ℕ). IfCame update.result.status (runs n)) (c.used-jobs.ensures ∙ ap (used_of c.in-Ok-Upd.jobs) (c.len.ensures ∙ c.args.crew.ok.0)) (update.ensures.ran tells))

pub returns-in-Ok-Upd-clause-others : goal.returns-in-Ok-Upd-clause-others
returns-in-Ok-Upd-clause-others g c =
    let wanted = rw c.in-Ok-Upd.is at c.order_of.ensures in
    let is = rw c.in-Ok-Upd.field-0-is at wanted in
    let crew = c.args.crew.items in
    let now = c.update_by-status.result.crew.items in
    subst (λ (w : Wanted). drop (used w (length crew)) now ≡ drop (used w (length crew)) crew) (sym is) (subst (λ (n : ℕ). drop n now ≡ drop n crew) (c.used-jobs.ensures ∙ ap (used_of c.in-Ok-Upd.jobs) (c.len.ensures ∙ c.args.crew.ok.0)) c.update_by-status.ensures.others)

pub returns-in-Ok-Upd-clause-printed : goal.returns-in-Ok-Upd-clause-printed
returns-in-Ok-Upd-clause-printed g c = λ shows.
    let wanted = rw c.in-Ok-Upd.is at c.order_of.ensures in
    let is = rw c.in-Ok-Upd.field-0-is at wanted in
    let update = c.update_by-status in
    let old = g.S.Site.world c.args.site in
    let new = g.S.Site.world update.result.site in
    let before = g.K.Sink.faults c.args.out.now in
    let now = g.K.Sink.faults update.new.out in
    let held = g.K.Sink.held c.args.out.now in
    let holds = g.K.Sink.held update.new.out in
    let hears = Hears g.T.Reporter.told g.T.Reporter.faults c.args.tellers.now.items update.new.tellers.items update.result.failed.items in
    subst (λ (w : Wanted). Printed (used w (length c.args.crew.items)) g.S.Site.tells g.R.Runner.tells (IsTrue g.S.Site.tells × IsKeptBySome g.S.Site c.args.site) (SaysWhyOf g.S.Site c.args.site) (IsTrueLog g.S.Site g.R.Runner c.args.site new) hears w g.R.Runner.next old new update.result.ran before now held holds update.result.status) (sym is)
    (subst (λ (n : ℕ). PrintsUpdate n g.S.Site.tells c.in-Ok-Upd.keep_going (SaysWhyOf g.S.Site c.args.site c.in-Ok-Upd.explain) (IsTrueLog g.S.Site g.R.Runner c.args.site new) hears old new update.result.ran before now held holds update.result.status) (c.used-jobs.ensures ∙ ap (used_of c.in-Ok-Upd.jobs) (c.len.ensures ∙ c.args.crew.ok.0)) (update.ensures.printed shows))

pub returns-in-Ok-Upd-clause-tells : goal.returns-in-Ok-Upd-clause-tells
returns-in-Ok-Upd-clause-tells g c = λ _.
    let wanted = rw c.in-Ok-Upd.is at c.order_of.ensures in
    let is = rw c.in-Ok-Upd.field-0-is at wanted in
    let update = c.update_by-status in
    let old = g.S.Site.world c.args.site in
    let new = g.S.Site.world update.result.site in
    let before = g.K.Sink.faults c.args.out.now in
    let now = g.K.Sink.faults update.new.out in
    let hears = Hears g.T.Reporter.told g.T.Reporter.faults c.args.tellers.now.items update.new.tellers.items update.result.failed.items in
    subst (λ (w : Wanted). TellsUpdate (used w (length c.args.crew.items)) g.S.Site.tells (goes_on w) (IsTrueLog g.S.Site g.R.Runner c.args.site new) hears old new update.result.ran before now update.result.status) (sym is)
    (subst (λ (n : ℕ). TellsUpdate n g.S.Site.tells c.in-Ok-Upd.keep_going (IsTrueLog g.S.Site g.R.Runner c.args.site new) hears old new update.result.ran before now update.result.status) (c.used-jobs.ensures ∙ ap (used_of c.in-Ok-Upd.jobs) (c.len.ensures ∙ c.args.crew.ok.0)) update.ensures.tells)

pub returns-in-Ok-Upd-clause-blamed_reporter : goal.returns-in-Ok-Upd-clause-blamed_reporter
returns-in-Ok-Upd-clause-blamed_reporter g c = c.update_by-status.ensures.blamed_reporter

-- no reporter is blamed without an update

pub returns-in-Ok-Init-clause-blamed_reporter : goal.returns-in-Ok-Init-clause-blamed_reporter
returns-in-Ok-Init-clause-blamed_reporter g c = λ is _.
    absurd (subst (HasBegunCause (g.S.Site.faults c.args.site) (g.S.Site.faults c.init-status.new.site) (g.K.Sink.faults c.args.out.now) (g.K.Sink.faults c.init-status.new.out)) is c.init-status.ensures.counted_cause)

pub returns-in-Ok-Verify-clause-blamed_reporter : goal.returns-in-Ok-Verify-clause-blamed_reporter
returns-in-Ok-Verify-clause-blamed_reporter g c = λ is _.
    absurd (subst (HasComparedCause (counts g.S.Site.faults g.R.Runner.faults g.K.Sink.faults c.args.site (c.index_mut.result.now ∷ []) c.args.out.now)
    (counts g.S.Site.faults g.R.Runner.faults g.K.Sink.faults c.verify-status.new.site (c.verify-status.new.runner ∷ []) c.verify-status.new.out)) is c.verify-status.ensures.counted_cause)

pub returns-in-Ok-Demo-clause-blamed_reporter : goal.returns-in-Ok-Demo-clause-blamed_reporter
returns-in-Ok-Demo-clause-blamed_reporter g c = λ is _.
    absurd (subst (HasDemoCause (g.K.Sink.faults c.args.out.now) (g.K.Sink.faults c.demo.new.out)) is c.demo.ensures.cause)

pub returns-in-Err-Usage-clause-blamed_reporter : goal.returns-in-Err-Usage-clause-blamed_reporter
returns-in-Err-Usage-clause-blamed_reporter g c = λ is _. absurd (subst (IsRefusal c.in-Err-Usage.place) is c.refuse.ensures.cause)

pub returns-clause-blamed_reporter : goal.returns-clause-blamed_reporter
returns-clause-blamed_reporter g c = λ is _. absurd (cc is)

pub returns-in-Ok-Upd-clause-states : goal.returns-in-Ok-Upd-clause-states
returns-in-Ok-Upd-clause-states g c = λ here _. c.update_by-status.ensures.states here

pub returns-in-Ok-Upd-clause-kept : goal.returns-in-Ok-Upd-clause-kept
returns-in-Ok-Upd-clause-kept g c = λ here _. c.update_by-status.ensures.kept here

pub returns-in-Ok-Upd-clause-sources_stay : goal.returns-in-Ok-Upd-clause-sources_stay
returns-in-Ok-Upd-clause-sources_stay g c = λ tells some _. c.update_by-status.ensures.sources_stay tells some

-- what an update would do

pub returns-in-Ok-Todo-clause-nothing_done : goal.returns-in-Ok-Todo-clause-nothing_done
returns-in-Ok-Todo-clause-nothing_done g c = λ tells.
    let wanted = rw c.in-Ok-Todo.is at c.order_of.ensures in
    let is = rw c.in-Ok-Todo.field-0-is at wanted in
    subst (λ (w : Wanted). NothingDone w (g.S.Site.world c.args.site) (g.S.Site.world c.todo-status.new.site)) (sym is) (c.todo-status.ensures.tree tells)

pub returns-in-Ok-Todo-clause-plain_cause : goal.returns-in-Ok-Todo-clause-plain_cause
returns-in-Ok-Todo-clause-plain_cause g c =
    let wanted = rw c.in-Ok-Todo.is at c.order_of.ensures in
    let is = rw c.in-Ok-Todo.field-0-is at wanted in
    let before = counts g.S.Site.faults g.R.Runner.faults g.K.Sink.faults c.args.site c.args.crew.items c.args.out.now in
    let now = counts g.S.Site.faults g.R.Runner.faults g.K.Sink.faults c.todo-status.new.site c.args.crew.items c.todo-status.new.out in
    subst (λ (w : Wanted). HasPlainCause w before now c.todo-status.result.status) (sym is) (c.todo-status.ensures.counted_cause (map g.R.Runner.faults c.args.crew.items))

pub returns-in-Ok-Todo-clause-found_out : goal.returns-in-Ok-Todo-clause-found_out
returns-in-Ok-Todo-clause-found_out g c = λ tells.
    let wanted = rw c.in-Ok-Todo.is at c.order_of.ensures in
    let is = rw c.in-Ok-Todo.field-0-is at wanted in
    let kept = IsKeptBySome g.S.Site c.args.site in
    subst (λ (w : Wanted). ForTodo w c.todo-status.result.status (FindsOut kept (g.S.Site.world c.args.site) (g.S.Site.world c.todo-status.new.site))) (sym is) (c.todo-status.ensures.found_out tells)

pub returns-in-Ok-Todo-clause-known : goal.returns-in-Ok-Todo-clause-known
returns-in-Ok-Todo-clause-known g c = λ tells _. c.todo-status.ensures.known tells

pub returns-in-Ok-Todo-clause-sources_and_crashes : goal.returns-in-Ok-Todo-clause-sources_and_crashes
returns-in-Ok-Todo-clause-sources_and_crashes g c = λ here _. c.todo-status.ensures.sources_and_crashes here.tells g.R.Runner.next here.kept

pub returns-in-Ok-Todo-clause-states : goal.returns-in-Ok-Todo-clause-states
returns-in-Ok-Todo-clause-states g c = λ here _. c.todo-status.ensures.states here.tells g.R.Runner.next here.kept

pub returns-in-Ok-Todo-clause-kept : goal.returns-in-Ok-Todo-clause-kept
returns-in-Ok-Todo-clause-kept g c = λ here _. c.todo-status.ensures.kept here.tells g.R.Runner.next here.kept

pub returns-in-Ok-Todo-clause-sources_stay : goal.returns-in-Ok-Todo-clause-sources_stay
returns-in-Ok-Todo-clause-sources_stay g c = λ tells some _. c.todo-status.ensures.sources_stay tells some

pub returns-in-Ok-Todo-clause-tells_todo : goal.returns-in-Ok-Todo-clause-tells_todo
returns-in-Ok-Todo-clause-tells_todo g c = λ _. c.todo-status.ensures.tells

pub returns-in-Ok-Todo-clause-blamed_reporter : goal.returns-in-Ok-Todo-clause-blamed_reporter
returns-in-Ok-Todo-clause-blamed_reporter g c = c.todo-status.ensures.blamed_reporter

-- a comparison

pub returns-in-Ok-Verify-clause-others : goal.returns-in-Ok-Verify-clause-others
returns-in-Ok-Verify-clause-others g c =
    let wanted = rw c.in-Ok-Verify.is at c.order_of.ensures in
    let is = rw c.in-Ok-Verify.field-0-is at wanted in
    let crew = c.args.crew.items in
    let now = slice_set crew 0 c.verify-status.new.runner in
    subst (λ (w : Wanted). drop (used w (length crew)) now ≡ drop (used w (length crew)) crew) (sym is) (others_stay crew c.verify-status.new.runner)

pub returns-in-Ok-Verify-clause-plain_cause : goal.returns-in-Ok-Verify-clause-plain_cause
returns-in-Ok-Verify-clause-plain_cause g c =
    let wanted = rw c.in-Ok-Verify.is at c.order_of.ensures in
    let is = rw c.in-Ok-Verify.field-0-is at wanted in
    let crew = slice_set c.args.crew.items 0 c.verify-status.new.runner in
    let before = counts g.S.Site.faults g.R.Runner.faults g.K.Sink.faults c.args.site c.args.crew.items c.args.out.now in
    let now = counts g.S.Site.faults g.R.Runner.faults g.K.Sink.faults c.verify-status.new.site crew c.verify-status.new.out in
    subst (λ (w : Wanted). HasPlainCause w before now c.verify-status.result) (sym is)
    (crew_compared g.R.Runner.faults c.args.crew.items c.index_mut.result.now c.verify-status.new.runner (g.S.Site.faults c.args.site) (g.S.Site.faults c.verify-status.new.site) (g.K.Sink.faults c.args.out.now)
    (g.K.Sink.faults c.verify-status.new.out) c.verify-status.result c.requires.crew.0 c.index_mut.ensures.value c.verify-status.ensures.counted_cause)

pub returns-in-Ok-Verify-clause-compared_ran : goal.returns-in-Ok-Verify-clause-compared_ran
returns-in-Ok-Verify-clause-compared_ran g c = λ tells means shows.
    let wanted = rw c.in-Ok-Verify.is at c.order_of.ensures in
    let is = rw c.in-Ok-Verify.field-0-is at wanted in
    let world = g.S.Site.world c.args.site in
    let crew = slice_set c.args.crew.items 0 c.verify-status.new.runner in
    let compares = CrewCompares g.R.Runner.next world (map g.R.Runner.ran c.args.crew.items) (map g.R.Runner.ran crew) in
    subst (λ (w : Wanted). ForVerify w c.verify-status.result compares) (sym is)
    (crew_compares g.R.Runner.ran c.args.crew.items c.index_mut.result.now c.verify-status.new.runner c.requires.crew.0 c.index_mut.ensures.value g.R.Runner.next world
    c.verify-status.result (c.verify-status.ensures.ran tells means shows))

pub returns-in-Ok-Verify-clause-compares : goal.returns-in-Ok-Verify-clause-compares
returns-in-Ok-Verify-clause-compares g c = λ tells means _ can fine.
    compares_so g.R.Runner.next (g.S.Site.world c.args.site) _ _ c.verify-status.result (c.verify-status.ensures.compared tells means)
    (crew_compared g.R.Runner.faults c.args.crew.items c.index_mut.result.now c.verify-status.new.runner (g.S.Site.faults c.args.site) (g.S.Site.faults c.verify-status.new.site) (g.K.Sink.faults c.args.out.now)
    (g.K.Sink.faults c.verify-status.new.out) c.verify-status.result c.requires.crew.0 c.index_mut.ensures.value c.verify-status.ensures.counted_cause) can fine

-- no memory to read the words: nothing was done

pub returns-clause-ran : goal.returns-clause-ran
returns-clause-ran g c = λ _.
    let lists = map g.R.Runner.ran (take (used (order c.args.words.now) (length c.args.crew.items)) c.args.crew.items) in
    memory_for_update (order c.args.words.now) (CrewRuns c.new-in-Err-Memory.result lists lists) (no_runs lists c.new-in-Err-Memory.result c.new-in-Err-Memory.ensures)

pub returns-clause-tells : goal.returns-clause-tells
returns-clause-tells g c = λ _.
    let tellers = c.args.tellers.now.items in
    let told = g.T.Reporter.told in
    let faults = g.T.Reporter.faults in
    tells_nothing (used (order c.args.words.now) (length c.args.crew.items)) g.S.Site.tells (goes_on (order c.args.words.now)) (IsTrueLog g.S.Site g.R.Runner c.args.site (g.S.Site.world c.args.site)) (nothing_true g.S.Site g.R.Runner c.args.site (g.S.Site.world c.args.site)) (Hears told faults tellers tellers c.nobody-in-Err-Memory.result.items)
    (unheard told faults tellers c.nobody-in-Err-Memory.result.items c.nobody-in-Err-Memory.ensures nothing_logged Memory) (g.S.Site.world c.args.site) c.new-in-Err-Memory.result c.new-in-Err-Memory.ensures (g.K.Sink.faults c.args.out.now)
    (g.K.Sink.faults c.args.out.now)

pub returns-clause-tells_todo : goal.returns-clause-tells_todo
returns-clause-tells_todo g c = λ _.
    let tellers = c.args.tellers.now.items in
    let told = g.T.Reporter.told in
    let faults = g.T.Reporter.faults in
    let failed = c.nobody-in-Err-Memory.result.items in
    tells_no_folder (IsTrue g.S.Site.tells × IsKeptBySome g.S.Site c.args.site) (Hears told faults tellers tellers failed) (unheard told faults tellers failed c.nobody-in-Err-Memory.ensures nothing_logged Memory)
    (g.S.Site.world c.args.site) (g.K.Sink.faults c.args.out.now) (g.K.Sink.faults c.args.out.now)

pub returns-clause-printed : goal.returns-clause-printed
returns-clause-printed g c = λ _.
    let tellers = c.args.tellers.now.items in
    let told = g.T.Reporter.told in
    let faults = g.T.Reporter.faults in
    memory_prints (used (order c.args.words.now) (length c.args.crew.items)) g.S.Site.tells g.R.Runner.tells (IsTrue g.S.Site.tells × IsKeptBySome g.S.Site c.args.site) (SaysWhyOf g.S.Site c.args.site) (says_none g.S.Site c.args.site) (IsTrueLog g.S.Site g.R.Runner c.args.site (g.S.Site.world c.args.site)) (nothing_true g.S.Site g.R.Runner c.args.site (g.S.Site.world c.args.site)) (Hears told faults tellers tellers c.nobody-in-Err-Memory.result.items) (unheard told faults tellers c.nobody-in-Err-Memory.result.items c.nobody-in-Err-Memory.ensures nothing_logged Memory) (order c.args.words.now) g.R.Runner.next (g.S.Site.world c.args.site) c.new-in-Err-Memory.result (g.K.Sink.faults c.args.out.now) (g.K.Sink.held c.args.out.now)
    c.new-in-Err-Memory.ensures

pub returns-clause-logged : goal.returns-clause-logged
returns-clause-logged g c = memory_logs (order c.args.words.now) (used (order c.args.words.now) (length c.args.crew.items)) (goes_on (order c.args.words.now)) c.new-in-Err-Memory.result c.new-in-Err-Memory.ensures

pub returns-clause-found_out : goal.returns-clause-found_out
returns-clause-found_out g c = λ _.
    memory_found_out (order c.args.words.now) (IsKeptBySome g.S.Site c.args.site) (g.S.Site.world c.args.site) (λ kept. untouched_flags g.S.Site c.args.site kept.0 kept.1 c.flags_are_of_rules.ensures)

pub returns-clause-spares : goal.returns-clause-spares
returns-clause-spares g c = λ _.
    let world = g.S.Site.world c.args.site in
    memory_for_update (order c.args.words.now) (Spares world world) tt

pub returns-clause-plain_cause : goal.returns-clause-plain_cause
returns-clause-plain_cause g c =
    memory_causes (order c.args.words.now) (counts g.S.Site.faults g.R.Runner.faults g.K.Sink.faults c.args.site c.args.crew.items c.args.out.now)

pub returns-clause-opens_store : goal.returns-clause-opens_store
returns-clause-opens_store g c = λ _. memory_opens (order c.args.words.now) (g.S.Site.world c.args.site) c.new-in-Err-Memory.result c.new-in-Err-Memory.ensures

pub returns-clause-opens : goal.returns-clause-opens
returns-clause-opens g c = λ _.
    let bytes = (g.S.Site.world c.args.site).store in
    memory_for_verify (order c.args.words.now) (λ compared. JustOpens bytes bytes (result_err compared)) (inl refl)

pub returns-clause-compared : goal.returns-clause-compared
returns-clause-compared g c = λ _ _. memory_for_verify (order c.args.words.now) (HasCompared g.R.Runner.next (g.S.Site.world c.args.site)) tt

pub returns-clause-compared_ran : goal.returns-clause-compared_ran
returns-clause-compared_ran g c = λ _ _ _.
    memory_for_verify (order c.args.words.now) (CrewCompares g.R.Runner.next (g.S.Site.world c.args.site) (map g.R.Runner.ran c.args.crew.items) (map g.R.Runner.ran c.args.crew.items))
    (no_crew_ran g.R.Runner.ran g.R.Runner.next (g.S.Site.world c.args.site) c.args.crew.items c.requires.crew.0)

pub returns-in-Ok-Demo-clause-quiet : goal.returns-in-Ok-Demo-clause-quiet
returns-in-Ok-Demo-clause-quiet g c = λ _ _. at_rest g.S.Site.moment g.S.Site.left_since c.args.site (QuietStep (order c.args.words.now) (g.S.Site.world c.args.site))

pub returns-in-Err-Usage-clause-quiet : goal.returns-in-Err-Usage-clause-quiet
returns-in-Err-Usage-clause-quiet g c = λ _ _. at_rest g.S.Site.moment g.S.Site.left_since c.args.site (QuietStep (order c.args.words.now) (g.S.Site.world c.args.site))

pub returns-clause-quiet : goal.returns-clause-quiet
returns-clause-quiet g c = λ _ _. at_rest g.S.Site.moment g.S.Site.left_since c.args.site (QuietStep (order c.args.words.now) (g.S.Site.world c.args.site))

pub returns-in-Ok-Verify-clause-quiet : goal.returns-in-Ok-Verify-clause-quiet
returns-in-Ok-Verify-clause-quiet g c = λ tells _.
    let wanted = rw c.in-Ok-Verify.is at c.order_of.ensures in
    let is = rw c.in-Ok-Verify.field-0-is at wanted in
    let site = c.args.site in
    let new = c.verify-status.new.site in
    subst (λ (w : Wanted). GoesOn g.S.Site.moment g.S.Site.left_since site new (QuietStep w (g.S.Site.world site))) (sym is) (c.verify-status.ensures.crash tells)

pub returns-in-Ok-Verify-clause-nothing_done : goal.returns-in-Ok-Verify-clause-nothing_done
returns-in-Ok-Verify-clause-nothing_done g c = λ tells.
    let wanted = rw c.in-Ok-Verify.is at c.order_of.ensures in
    let is = rw c.in-Ok-Verify.field-0-is at wanted in
    subst (λ (w : Wanted). NothingDone w (g.S.Site.world c.args.site) (g.S.Site.world c.verify-status.new.site)) (sym is) (c.verify-status.ensures.holds tells)

pub returns-clause-nothing_done : goal.returns-clause-nothing_done
returns-clause-nothing_done g c = λ _. idle (order c.args.words.now) (g.S.Site.world c.args.site)

-- a beginning

pub returns-clause-begins : goal.returns-clause-begins
returns-clause-begins g c = λ _.
    let world = g.S.Site.world c.args.site in
    memory_for_init (order c.args.words.now) (Begins world world) tt

pub returns-clause-lasts : goal.returns-clause-lasts
returns-clause-lasts g c = λ _.
    let site = c.args.site in
    memory_for_init (order c.args.words.now) (Lasts (g.S.Site.left_since site (g.S.Site.moment site)) (g.S.Site.world site)) tt

pub returns-in-Ok-Init-clause-initializes : goal.returns-in-Ok-Init-clause-initializes
returns-in-Ok-Init-clause-initializes g c = λ tells _ empty fine.
    initializes_so (g.S.Site.world c.args.site) (g.S.Site.world c.init-status.new.site) _ _ c.init-status.result (c.init-status.ensures.begins tells) c.init-status.ensures.counted_cause empty fine

pub returns-in-Ok-Init-clause-quiet : goal.returns-in-Ok-Init-clause-quiet
returns-in-Ok-Init-clause-quiet g c = λ tells _.
    let wanted = rw c.in-Ok-Init.is at c.order_of.ensures in
    let is = rw c.in-Ok-Init.field-0-is at wanted in
    let site = c.args.site in
    let new = c.init-status.new.site in
    subst (λ (w : Wanted). GoesOn g.S.Site.moment g.S.Site.left_since site new (QuietStep w (g.S.Site.world site))) (sym is) (c.init-status.ensures.crash tells)

pub returns-in-Ok-Init-clause-nothing_done : goal.returns-in-Ok-Init-clause-nothing_done
returns-in-Ok-Init-clause-nothing_done g c = λ tells.
    let wanted = rw c.in-Ok-Init.is at c.order_of.ensures in
    let is = rw c.in-Ok-Init.field-0-is at wanted in
    subst (λ (w : Wanted). NothingDone w (g.S.Site.world c.args.site) (g.S.Site.world c.init-status.new.site)) (sym is) (c.init-status.ensures.keeps tells)

-- over a kept site, where there was no memory to read the words

pub returns-clause-exactly_the_files : goal.returns-clause-exactly_the_files
returns-clause-exactly_the_files g c = λ _. memory_for_update (order c.args.words.now) (ExactlyTheFiles g.R.Runner.next (g.S.Site.world c.args.site) (g.S.Site.world c.args.site)) tt

pub returns-clause-only_what_is_needed : goal.returns-clause-only_what_is_needed
returns-clause-only_what_is_needed g c = λ here.
    let world = g.S.Site.world c.args.site in
    let ran = c.new-in-Err-Memory.result in
    let jobs = used (order c.args.words.now) (length c.args.crew.items) in
    memory_for_update (order c.args.words.now) (OnlyWhatIsNeeded g.R.Runner.next (goes_on (order c.args.words.now)) jobs world world ran)
    (untouched_needed g.S.Site g.R.Runner c.args.site here c.flags_are_of_rules.ensures (goes_on (order c.args.words.now)) jobs ran c.new-in-Err-Memory.ensures)

pub returns-clause-blamed : goal.returns-clause-blamed
returns-clause-blamed g c = λ _. memory_for_update (order c.args.words.now) (IsToBlame g.R.Runner.next (g.S.Site.world c.args.site) (g.S.Site.world c.args.site) c.new-in-Err-Memory.result) tt

pub returns-clause-full : goal.returns-clause-full
returns-clause-full g c = λ _. memory_for_update (order c.args.words.now) (HasFullCause g.S.Site g.R.Runner.next c.args.site c.args.site c.new-in-Err-Memory.result) tt

pub returns-clause-settled : goal.returns-clause-settled
returns-clause-settled g c = λ _. memory_for_update (order c.args.words.now) (OnceDone (IsSettled g.S.Site c.args.site)) (λ done. cc done)

pub returns-clause-sources_and_crashes : goal.returns-clause-sources_and_crashes
returns-clause-sources_and_crashes g c = λ here _. untouched_crashes g.S.Site g.R.Runner c.args.site here

pub returns-clause-states : goal.returns-clause-states
returns-clause-states g c = λ here _. untouched_states g.S.Site g.R.Runner c.args.site here

pub returns-clause-kept : goal.returns-clause-kept
returns-clause-kept g c = λ here _. here.kept

pub returns-clause-sources_stay : goal.returns-clause-sources_stay
returns-clause-sources_stay g c = λ _ some _. let site = c.args.site in sources_kept g.S.Site some.0 (g.S.Site.known site) site site (omega arith) some.1

-- what a crash may leave of a store that can't be read

pub returns-in-Ok-Upd-clause-closed : goal.returns-in-Ok-Upd-clause-closed
returns-in-Ok-Upd-clause-closed g c = λ tells _ closed. c.update_by-status.ensures.closed tells closed

pub returns-in-Ok-Todo-clause-closed : goal.returns-in-Ok-Todo-clause-closed
returns-in-Ok-Todo-clause-closed g c = λ tells _ closed. c.todo-status.ensures.closed tells closed

pub returns-clause-closed : goal.returns-clause-closed
returns-clause-closed g c = λ _ _ _. at_rest g.S.Site.moment g.S.Site.left_since c.args.site OpenStep

-- where a file of the user's stands at a path that no rule makes

pub returns-in-Ok-Upd-clause-users : goal.returns-in-Ok-Upd-clause-users
returns-in-Ok-Upd-clause-users g c = λ tells some has.
    let wanted = rw c.in-Ok-Upd.is at c.order_of.ensures in
    let is = rw c.in-Ok-Upd.field-0-is at wanted in
    let held = IsHeldUp g.S.Site c.args.site c.update_by-status.result.site c.update_by-status.result.ran in
    subst (λ (w : Wanted). ForUpdate w c.update_by-status.result.status held) (sym is) (c.update_by-status.ensures.users tells some has)

pub returns-clause-users : goal.returns-clause-users
returns-clause-users g c = λ _ _ _.
    let site = c.args.site in
    memory_for_update (order c.args.words.now) (IsHeldUp g.S.Site site site c.new-in-Err-Memory.result)
    (record { stops = λ none. none-some _ (sym none); none = c.new-in-Err-Memory.ensures; files = refl; crash = at_rest g.S.Site.moment g.S.Site.left_since site TreeStays })

-- where nothing stands in its way

pub returns-in-Ok-Upd-clause-success : goal.returns-in-Ok-Upd-clause-success
returns-in-Ok-Upd-clause-success g c = λ here _ can fine told.
    let update = c.update_by-status in
    updates_so g.S.Site g.R.Runner.next c.args.site update.result.site here.kept.now.graph here.kept.now.reads can update.result.ran _ _ update.result.status (update.ensures.opens_store here.tells) (update.ensures.blamed here)
    update.ensures.counted_cause.any (λ is. update.ensures.blamed_reporter is told) fine

pub returns-in-Ok-Todo-clause-lists : goal.returns-in-Ok-Todo-clause-lists
returns-in-Ok-Todo-clause-lists g c = λ tells some _ can fine told.
    let todo = c.todo-status in
    finds_so (g.S.Site.world c.args.site) (g.S.Site.world todo.new.site) some.1.now.graph some.1.now.reads can (IsKeptBySome g.S.Site c.args.site) _ _ todo.result.status some (todo.ensures.found_out tells)
    (todo.ensures.counted_cause (map g.R.Runner.faults c.args.crew.items)) (λ is. todo.ensures.blamed_reporter is told) fine

pub returns-clause-success : goal.returns-clause-success
returns-clause-success g c = λ _ _ _ _ _. tt

pub returns-clause-lists : goal.returns-clause-lists
returns-clause-lists g c = λ _ _ _ _ _ _. tt

-- the limits

pub returns-clause-limits : goal.returns-clause-limits
returns-clause-limits g c = λ _. memory_for_update (order c.args.words.now) (IsWithin (g.S.Site.world c.args.site)) tt
