-- How an order ends whose update came out so: what is promised of the update holds of the status that tells of it.
use Rattle.std.proofs.Common.{◌≡◌, inl, inr, ℕ, zero, suc, Bool, true, false, List, [], ◌∷◌, Option, None, Some, refl, sym, ap, subst, ◌∙◌, append-nil, length, map, arith}
use Rattle.std.specs.List.{slice_get}
use Rattle.std.specs.Prelude.{nat_lt, if◌then◌else◌}
use Rattle.std.proofs.lemmas.Bool.{false≢true}
use Rattle.std.proofs.lemmas.List.{length-map}
use Rattle.std.proofs.lemmas.List.Sorted.{IsPermutation-refl}
use Rattle.tup_path.specs.Count.{Rose}
use Rattle.tup_path.specs.Name.{Names}
use Rattle.tup_site.specs.World.{World}
use Rattle.tup_site.specs.declared.site.Site.{Ghosts as Site}
use Rattle.tup_site.specs.declared.fault.SiteFailed.TheVariants.{Fault, TooLarge, Memory as NoMemory}
use Rattle.tup_rule.specs.declared.rule.RuleName.{RuleName}
use Rattle.tup_access.specs.declared.verdict.Verdict.TheVariants.{Good, Failed, IllegalRead as ReadsIllegally, IllegalWrite as WritesIllegally, Unwritten as LeavesUnwritten, TooManyReads as ReadsTooOften}
use Rattle.tup_promise.specs.Cause.{CrewCountedCause, CrewRunCause, HasRunCause, HasCountedCause as StopHasCountedCause, HasSharedCause as StopHasSharedCause, OneRose, PassesLimit}
use Rattle.tup_phases.specs.Logged.{EndsFirst, IsLogged}
use Rattle.tup_promise.specs.Ran.{CrewRuns, RunsShare, RunsThese, share}
use Rattle.tup_promise.specs.Unopened.{Unopened}
use Rattle.tup_promise.specs.declared.fault.SourcesFault.{SourcesFault}
use Rattle.tup_promise.specs.declared.fault.SourcesFault.TheVariants as sources
use Rattle.tup_promise.specs.declared.log.Log.{Log}
use Rattle.tup_promise.specs.declared.stop.Stop.{Stop}
use Rattle.tup_promise.specs.declared.stop.Stop.TheVariants.{NoStore, BadStore as StoreDamaged, Sources, UserFile as IsUsers, Bad, Run, Full, Outside}
use Rattle.tup_top.specs.Lines.{lines}
use Rattle.tup_top.specs.Promise.{Counts, AreSteady, OneFailedAtMost, HasAloneCause, HasCountedCause, HasCrewCause, HasSharedCause, Logs, OpensStore}
use Rattle.tup_top.specs.Printed.{IsDone, Ends, EndsTold, Prints, Told, PrintsUpdate, SaysWhyOf}
use Rattle.tup_top.specs.Status.{most, most_on_disk, told_limit, IsLimit, status_of, status_of_sources, IfCame, after_sink_fault}
use Rattle.tup_top.specs.declared.status.Status.{Status}
use Rattle.tup_top.specs.declared.status.Status.TheVariants.{Done, Command, IllegalRead, IllegalWrite, Unwritten, TooManyReads, Usage, NotInit, AlreadyInit, BadStore, Parse, CircularDirs, CircularCommands, NoSuchGroup, UserFile, SiteFault, RunFault, SinkFault, TellFault, Limit, Memory, Differs}
use Rattle.tup_top.specs.declared.status.What.{What}
use Rattle.tup_top.specs.declared.status.What.TheVariants.{Files, FileSize, Commands, Links, StoreSize}

-- what is told as a limit is one
limit_is : (what : What) (count : ℕ) → IsLimit what (told_limit what count)
limit_is what count = by (nat_lt (most_on_disk what) count)
  where
    by : (b : Bool) → IsLimit what (if b then most_on_disk what else most what)
    by true = inr refl
    by false = inl refl

-- what is promised of sources that ask for no rules is promised of the status that tells why
came_of_sources : (P : Option Stop → Type 0) (fault : SourcesFault) → PassesLimit fault → P (Some (Sources fault)) → IfCame (status_of_sources fault) P
came_of_sources P (sources.TooManyFiles count) passes p = (count, record { many = passes; told = refl }, p)
came_of_sources P (sources.Parse fault) passes p = p
came_of_sources P (sources.CircularDirs cycle) passes p = p
came_of_sources P (sources.TooManyCommands count) passes p = (count, record { many = passes; told = refl }, p)
came_of_sources P (sources.NoSuchGroup group) passes p = p
came_of_sources P (sources.TooManyLinks count) passes p = (count, record { many = passes; told = refl }, p)
came_of_sources P (sources.CircularCommands cycle) passes p = p

sources_undone : (fault : SourcesFault) → IsDone (status_of_sources fault) → ⊥
sources_undone (sources.TooManyFiles number) done = done
sources_undone (sources.Parse fault) done = done
sources_undone (sources.CircularDirs cycle) done = done
sources_undone (sources.TooManyCommands number) done = done
sources_undone (sources.NoSuchGroup group) done = done
sources_undone (sources.TooManyLinks number) done = done
sources_undone (sources.CircularCommands cycle) done = done

-- what a site counts beside one runner it counts beside any
pub shared_cause : (before now : ℕ) (stopped : Option Stop) → StopHasCountedCause before now stopped → StopHasSharedCause before now stopped
shared_cause before now None cause = cause
shared_cause before now (Some NoStore) cause = cause
shared_cause before now (Some (StoreDamaged offset)) cause = cause
shared_cause before now (Some (Sources fault)) cause = cause
shared_cause before now (Some (IsUsers path written found)) cause = cause
shared_cause before now (Some (Bad rule verdict)) cause = cause.1
shared_cause before now (Some Run) cause = tt
shared_cause before now (Some Full) cause = tt
shared_cause before now (Some (Outside Fault)) cause = cause
shared_cause before now (Some (Outside (TooLarge count))) cause = cause.1
shared_cause before now (Some (Outside NoMemory)) cause = tt

-- what is promised of what an update came to is promised of the status that tells of it
pub came : (P : Option Stop → Type 0) (before now : ℕ) (log : Log) (stopped : Option Stop) → StopHasSharedCause before now stopped → P stopped → IfCame (status_of log stopped) P
came P before now log None cause p = p
came P before now log (Some NoStore) cause p = p
came P before now log (Some (StoreDamaged offset)) cause p = p
came P before now log (Some (Sources fault)) cause p = came_of_sources P fault cause.1 p
came P before now log (Some (IsUsers path written found)) cause p = (written, found, p)
came P before now log (Some (Bad rule Good)) cause p = absurd (false≢true (sym cause))
came P before now log (Some (Bad rule (Failed status))) cause p = p
came P before now log (Some (Bad rule (ReadsIllegally text))) cause p = p
came P before now log (Some (Bad rule (WritesIllegally text))) cause p = p
came P before now log (Some (Bad rule (LeavesUnwritten path))) cause p = p
came P before now log (Some (Bad rule ReadsTooOften)) cause p = p
came P before now log (Some Run) cause p = p
came P before now log (Some Full) cause p = p
came P before now log (Some (Outside Fault)) cause p = p
came P before now log (Some (Outside (TooLarge count))) cause p = (count, record { many = cause; told = refl }, p)
came P before now log (Some (Outside NoMemory)) cause p = p

-- a promise of what an update came to grows to a larger one
pub came_on : (P Q : Option Stop → Type 0) → ((stopped : Option Stop) → P stopped → Q stopped) → (status : Status) → IfCame status P → IfCame status Q
came_on P Q on (Done read ran removed) p = on None p
came_on P Q on (Command rule status) p = on (Some (Bad rule (Failed status))) p
came_on P Q on (IllegalRead rule text) p = on (Some (Bad rule (ReadsIllegally text))) p
came_on P Q on (IllegalWrite rule text) p = on (Some (Bad rule (WritesIllegally text))) p
came_on P Q on (Unwritten rule path) p = on (Some (Bad rule (LeavesUnwritten path))) p
came_on P Q on (TooManyReads rule) p = on (Some (Bad rule ReadsTooOften)) p
came_on P Q on (Usage place) p = p
came_on P Q on NotInit p = on (Some NoStore) p
came_on P Q on AlreadyInit p = p
came_on P Q on (BadStore offset) p = on (Some (StoreDamaged offset)) p
came_on P Q on (Parse fault) p = on (Some (Sources (sources.Parse fault))) p
came_on P Q on (CircularDirs cycle) p = on (Some (Sources (sources.CircularDirs cycle))) p
came_on P Q on (CircularCommands cycle) p = on (Some (Sources (sources.CircularCommands cycle))) p
came_on P Q on (NoSuchGroup group) p = on (Some (Sources (sources.NoSuchGroup group))) p
came_on P Q on (UserFile path) (written, found, p) = (written, found, on (Some (IsUsers path written found)) p)
came_on P Q on SiteFault p = on (Some (Outside Fault)) p
came_on P Q on RunFault p = on (Some Run) p
came_on P Q on SinkFault p = on None p
came_on P Q on TellFault p = on None p
came_on P Q on (Limit Files number) (count, passed, p) = (count, passed, on (Some (Sources (sources.TooManyFiles count))) p)
came_on P Q on (Limit FileSize number) (count, passed, p) = (count, passed, on (Some (Outside (TooLarge count))) p)
came_on P Q on (Limit Commands number) (count, passed, p) = (count, passed, on (Some (Sources (sources.TooManyCommands count))) p)
came_on P Q on (Limit Links number) (count, passed, p) = (count, passed, on (Some (Sources (sources.TooManyLinks count))) p)
came_on P Q on (Limit StoreSize number) p = on (Some Full) p
came_on P Q on Memory p = on (Some (Outside NoMemory)) p
came_on P Q on (Differs path) p = p

-- only an update that came to its end is done
pub done_is_none : (log : Log) (stopped : Option Stop) → IsDone (status_of log stopped) → stopped ≡ None
done_is_none log None done = refl
done_is_none log (Some NoStore) done = absurd done
done_is_none log (Some (StoreDamaged offset)) done = absurd done
done_is_none log (Some (Sources fault)) done = absurd (sources_undone fault done)
done_is_none log (Some (IsUsers path written found)) done = absurd done
done_is_none log (Some (Bad rule Good)) done = absurd done
done_is_none log (Some (Bad rule (Failed status))) done = absurd done
done_is_none log (Some (Bad rule (ReadsIllegally text))) done = absurd done
done_is_none log (Some (Bad rule (WritesIllegally text))) done = absurd done
done_is_none log (Some (Bad rule (LeavesUnwritten path))) done = absurd done
done_is_none log (Some (Bad rule ReadsTooOften)) done = absurd done
done_is_none log (Some Run) done = absurd done
done_is_none log (Some Full) done = absurd done
done_is_none log (Some (Outside Fault)) done = absurd done
done_is_none log (Some (Outside (TooLarge number))) done = absurd done
done_is_none log (Some (Outside NoMemory)) done = absurd done

-- a promise of what an update came to is one of what is answered for it, where want of memory keeps it too
pub answered : (P : Option Stop → Type 0) (before now old new : ℕ) (log : Log) (stopped : Option Stop) (status answer : Status) → status ≡ status_of log stopped → Ends before now status answer →
    StopHasSharedCause old new stopped → P stopped → P (Some (Outside NoMemory)) → IfCame answer P
answered P before now old new log stopped status answer is (inl e) cause p memory =
    subst (λ (s : Status). IfCame s P) (sym (e ∙ is)) (came P old new log stopped cause p)
answered P before now old new log stopped status answer is (inr (inl e)) cause p memory =
    subst (λ (s : Status). IfCame s P) (sym e) memory
answered P before now old new log stopped status answer is (inr (inr (e, done, rose))) cause p memory =
    subst (λ (s : Status). IfCame s P) (sym e) (subst P (done_is_none log stopped (subst IsDone is done)) p)

-- so it is where reporters were told before
pub answered_told : (P : Option Stop → Type 0) (before now old new : ℕ) (log : Log) (stopped : Option Stop) (status answer : Status) → status ≡ status_of log stopped → EndsTold before now status answer →
    StopHasSharedCause old new stopped → P stopped → P (Some (Outside NoMemory)) → IfCame answer P
answered_told P before now old new log stopped status answer is (inl ends) cause p memory = answered P before now old new log stopped status answer is ends cause p memory
answered_told P before now old new log stopped status answer is (inr (e, done)) cause p memory =
    subst (λ (s : Status). IfCame s P) (sym e) (subst P (done_is_none log stopped (subst IsDone is done)) p)

-- ---- counts

-- where nothing was done nothing failed, and a limit tells its number
counted_of_sources : (before now : Counts) (fault : SourcesFault) → AreSteady before now → HasCountedCause before now (status_of_sources fault)
counted_of_sources before now (sources.TooManyFiles number) steady = (steady, limit_is Files number)
counted_of_sources before now (sources.Parse fault) steady = steady
counted_of_sources before now (sources.CircularDirs cycle) steady = steady
counted_of_sources before now (sources.TooManyCommands number) steady = (steady, limit_is Commands number)
counted_of_sources before now (sources.NoSuchGroup group) steady = steady
counted_of_sources before now (sources.TooManyLinks number) steady = (steady, limit_is Links number)
counted_of_sources before now (sources.CircularCommands cycle) steady = steady

-- what a site, one runner and a sink count
abbrev pub of_one : ℕ → ℕ → ℕ → Counts
of_one site runner sink = record { site = site; runners = runner ∷ []; sink = sink }

module _ (site_before site_now run_before run_now sink_before sink_now : ℕ) where
  abbrev counts_before : Counts
  counts_before = of_one site_before run_before sink_before

  abbrev counts_now : Counts
  counts_now = of_one site_now run_now sink_now

  pub steady : site_now ≡ site_before → run_now ≡ run_before → AreSteady counts_before counts_now
  steady site run = (site, ap (λ (n : ℕ). n ∷ []) run)

  one_rose : Rose run_before run_now → OneRose (run_before ∷ []) (run_now ∷ [])
  one_rose rose = record { at = 0; was = run_before; is = run_now; stood = refl; stands = refl; rose = rose }

  pub counted_of_stop : (log : Log) (stopped : Option Stop) → (IsDone (status_of log stopped) → sink_now ≡ sink_before) → StopHasCountedCause site_before site_now stopped → HasRunCause run_before run_now stopped →
      HasCountedCause counts_before counts_now (status_of log stopped)
  counted_of_stop log None sink cause run = (steady cause run, sink tt)
  counted_of_stop log (Some NoStore) sink cause run = steady cause run
  counted_of_stop log (Some (StoreDamaged offset)) sink cause run = steady cause run
  counted_of_stop log (Some (Sources fault)) sink cause run = counted_of_sources counts_before counts_now fault (steady cause.0 run)
  counted_of_stop log (Some (IsUsers path written found)) sink cause run = steady cause run
  counted_of_stop log (Some (Bad rule Good)) sink cause run = absurd (false≢true (sym cause.1))
  counted_of_stop log (Some (Bad rule (Failed status))) sink cause run = steady cause.0 run
  counted_of_stop log (Some (Bad rule (ReadsIllegally text))) sink cause run = steady cause.0 run
  counted_of_stop log (Some (Bad rule (WritesIllegally text))) sink cause run = steady cause.0 run
  counted_of_stop log (Some (Bad rule (LeavesUnwritten path))) sink cause run = steady cause.0 run
  counted_of_stop log (Some (Bad rule ReadsTooOften)) sink cause run = steady cause.0 run
  counted_of_stop log (Some Run) sink cause run = (cause, one_rose run)
  counted_of_stop log (Some Full) sink cause run = (steady cause run, inl refl)
  counted_of_stop log (Some (Outside Fault)) sink cause run = (cause, ap (λ (n : ℕ). n ∷ []) run)
  counted_of_stop log (Some (Outside (TooLarge number))) sink cause run = (steady cause.0 run, limit_is FileSize number)
  counted_of_stop log (Some (Outside NoMemory)) sink cause run = inl (steady cause run)

  -- whatever it came to, one failed at most
  pub failed_once : (stopped : Option Stop) → StopHasCountedCause site_before site_now stopped → HasRunCause run_before run_now stopped → OneFailedAtMost counts_before counts_now
  failed_once None cause run = inl (steady cause run)
  failed_once (Some NoStore) cause run = inl (steady cause run)
  failed_once (Some (StoreDamaged offset)) cause run = inl (steady cause run)
  failed_once (Some (Sources fault)) cause run = inl (steady cause.0 run)
  failed_once (Some (IsUsers path written found)) cause run = inl (steady cause run)
  failed_once (Some (Bad rule verdict)) cause run = inl (steady cause.0 run)
  failed_once (Some Run) cause run = inr (inr (cause, one_rose run))
  failed_once (Some Full) cause run = inl (steady cause run)
  failed_once (Some (Outside Fault)) cause run = inr (inl (cause, ap (λ (n : ℕ). n ∷ []) run))
  failed_once (Some (Outside (TooLarge number))) cause run = inl (steady cause.0 run)
  failed_once (Some (Outside NoMemory)) cause run = inl (steady cause run)

  -- and no count rises unseen
  pub counted_cause : (log : Log) (stopped : Option Stop) (status answer : Status) → status ≡ status_of log stopped → Ends sink_before sink_now status answer →
      (IsDone answer → sink_now ≡ sink_before) → StopHasCountedCause site_before site_now stopped → HasRunCause run_before run_now stopped → HasCountedCause counts_before counts_now answer
  counted_cause log stopped status answer is (inl e) sink cause run =
      subst (HasCountedCause counts_before counts_now) (sym (e ∙ is)) (counted_of_stop log stopped (λ done. sink (subst IsDone (sym (e ∙ is)) done)) cause run)
  counted_cause log stopped status answer is (inr (inl e)) sink cause run = subst (HasCountedCause counts_before counts_now) (sym e) (failed_once stopped cause run)
  counted_cause log stopped status answer is (inr (inr (e, done, rose))) sink cause run =
      let none = done_is_none log stopped (subst IsDone is done) in
      subst (HasCountedCause counts_before counts_now) (sym e)
      (steady (subst (StopHasCountedCause site_before site_now) none cause) (subst (HasRunCause run_before run_now) none run), rose)

-- the causes that every call may have are causes of an update
as_alone : (before now : Counts) (status : Status) → HasCountedCause before now status → HasAloneCause before now status
as_alone before now (Done read ran removed) cause = cause
as_alone before now (Command rule status) cause = cause
as_alone before now (IllegalRead rule text) cause = cause
as_alone before now (IllegalWrite rule text) cause = cause
as_alone before now (Unwritten rule path) cause = cause
as_alone before now (TooManyReads rule) cause = cause
as_alone before now (Usage place) cause = cause
as_alone before now NotInit cause = cause
as_alone before now AlreadyInit cause = cause
as_alone before now (BadStore offset) cause = cause
as_alone before now (Parse fault) cause = cause
as_alone before now (CircularDirs cycle) cause = cause
as_alone before now (CircularCommands cycle) cause = cause
as_alone before now (NoSuchGroup group) cause = cause
as_alone before now (UserFile path) cause = cause
as_alone before now SiteFault cause = cause
as_alone before now RunFault cause = cause
as_alone before now SinkFault cause = cause
as_alone before now TellFault cause = absurd cause
as_alone before now (Limit what number) cause = cause
as_alone before now Memory cause = cause
as_alone before now (Differs path) cause = cause

-- no count rises unseen where reporters were told before
pub told_counted : (site_before site_now run_before run_now sink_before sink_now : ℕ) (log : Log) (stopped : Option Stop) (status answer : Status) → status ≡ status_of log stopped → EndsTold sink_before sink_now status answer →
    (IsDone answer → sink_now ≡ sink_before) → StopHasCountedCause site_before site_now stopped → HasRunCause run_before run_now stopped →
    HasAloneCause (of_one site_before run_before sink_before) (of_one site_now run_now sink_now) answer
told_counted site_before site_now run_before run_now sink_before sink_now log stopped status answer is (inl ends) sink cause run =
    as_alone (of_one site_before run_before sink_before) (of_one site_now run_now sink_now) answer
    (counted_cause site_before site_now run_before run_now sink_before sink_now log stopped status answer is ends sink cause run)
told_counted site_before site_now run_before run_now sink_before sink_now log stopped status answer is (inr (e, done)) sink cause run =
    let none = done_is_none log stopped (subst IsDone is done) in
    subst (HasAloneCause (of_one site_before run_before sink_before) (of_one site_now run_now sink_now)) (sym e)
    (steady site_before site_now run_before run_now sink_before sink_now (subst (StopHasCountedCause site_before site_now) none cause) (subst (HasRunCause run_before run_now) none run))

-- ---- counts of a crew

shared_of_sources : (before now : Counts) (fault : SourcesFault) → AreSteady before now → HasSharedCause before now (status_of_sources fault)
shared_of_sources before now (sources.TooManyFiles number) steady = limit_is Files number
shared_of_sources before now (sources.Parse fault) steady = steady
shared_of_sources before now (sources.CircularDirs cycle) steady = steady
shared_of_sources before now (sources.TooManyCommands number) steady = limit_is Commands number
shared_of_sources before now (sources.NoSuchGroup group) steady = steady
shared_of_sources before now (sources.TooManyLinks number) steady = limit_is Links number
shared_of_sources before now (sources.CircularCommands cycle) steady = steady

-- the causes of an update by one runner are those of a crew of one
one_alone : (before now : ℕ) → OneRose (before ∷ []) (now ∷ []) → Rose before now
one_alone before now one = by one.at one.stood one.stands
  where
    by : (at : ℕ) → slice_get (before ∷ []) at ≡ Some one.was → slice_get (now ∷ []) at ≡ Some one.is → Rose before now
    by zero stood stands =
        let was : before ≡ one.was = cc stood in
        let is : now ≡ one.is = cc stands in
        subst (λ (n : ℕ). Rose n now) (sym was) (subst (Rose one.was) (sym is) one.rose)
    by (suc at) stood stands = absurd (cc stood)

alone_run : (before now : ℕ) (stopped : Option Stop) → CrewRunCause (before ∷ []) (now ∷ []) stopped → HasRunCause before now stopped
alone_run before now None cause = cc cause
alone_run before now (Some NoStore) cause = cc cause
alone_run before now (Some (StoreDamaged offset)) cause = cc cause
alone_run before now (Some (Sources fault)) cause = cc cause
alone_run before now (Some (IsUsers path written found)) cause = cc cause
alone_run before now (Some (Bad rule verdict)) cause = let same : now ∷ [] ≡ before ∷ [] = cause refl in cc same
alone_run before now (Some Run) cause = one_alone before now cause
alone_run before now (Some Full) cause = let same : now ∷ [] ≡ before ∷ [] = cause refl in cc same
alone_run before now (Some (Outside failed)) cause = let same : now ∷ [] ≡ before ∷ [] = cause refl in cc same

module _ (site_before site_now : ℕ) (runs_before runs_now : List ℕ) (sink_before sink_now : ℕ) where
  abbrev crew_before : Counts
  crew_before = record { site = site_before; runners = runs_before; sink = sink_before }

  abbrev crew_now : Counts
  crew_now = record { site = site_now; runners = runs_now; sink = sink_now }

  shared_of_stop : (log : Log) (stopped : Option Stop) → (IsDone (status_of log stopped) → sink_now ≡ sink_before) → StopHasSharedCause site_before site_now stopped → CrewRunCause runs_before runs_now stopped →
      HasSharedCause crew_before crew_now (status_of log stopped)
  shared_of_stop log None sink cause run = ((cause, run), sink tt)
  shared_of_stop log (Some NoStore) sink cause run = (cause, run)
  shared_of_stop log (Some (StoreDamaged offset)) sink cause run = (cause, run)
  shared_of_stop log (Some (Sources fault)) sink cause run = shared_of_sources crew_before crew_now fault (cause.0, run)
  shared_of_stop log (Some (IsUsers path written found)) sink cause run = (cause, run)
  shared_of_stop log (Some (Bad rule Good)) sink cause run = absurd (false≢true (sym cause))
  shared_of_stop log (Some (Bad rule (Failed status))) sink cause run = tt
  shared_of_stop log (Some (Bad rule (ReadsIllegally text))) sink cause run = tt
  shared_of_stop log (Some (Bad rule (WritesIllegally text))) sink cause run = tt
  shared_of_stop log (Some (Bad rule (LeavesUnwritten path))) sink cause run = tt
  shared_of_stop log (Some (Bad rule ReadsTooOften)) sink cause run = tt
  shared_of_stop log (Some Run) sink cause run = run
  shared_of_stop log (Some Full) sink cause run = inl refl
  shared_of_stop log (Some (Outside Fault)) sink cause run = cause
  shared_of_stop log (Some (Outside (TooLarge number))) sink cause run = limit_is FileSize number
  shared_of_stop log (Some (Outside NoMemory)) sink cause run = tt

  shared_counts : (log : Log) (stopped : Option Stop) (status answer : Status) → status ≡ status_of log stopped → Ends sink_before sink_now status answer →
      (IsDone answer → sink_now ≡ sink_before) → StopHasSharedCause site_before site_now stopped → CrewRunCause runs_before runs_now stopped → HasSharedCause crew_before crew_now answer
  shared_counts log stopped status answer is (inl e) sink cause run =
      subst (HasSharedCause crew_before crew_now) (sym (e ∙ is)) (shared_of_stop log stopped (λ done. sink (subst IsDone (sym (e ∙ is)) done)) cause run)
  shared_counts log stopped status answer is (inr (inl e)) sink cause run = subst (HasSharedCause crew_before crew_now) (sym e) tt
  shared_counts log stopped status answer is (inr (inr (e, done, rose))) sink cause run =
      let none = done_is_none log stopped (subst IsDone is done) in
      subst (HasSharedCause crew_before crew_now) (sym e)
      ((subst (StopHasSharedCause site_before site_now) none cause, subst (CrewRunCause runs_before runs_now) none run), rose)

  shared_told : (log : Log) (stopped : Option Stop) (status answer : Status) → status ≡ status_of log stopped → EndsTold sink_before sink_now status answer →
      (IsDone answer → sink_now ≡ sink_before) → StopHasSharedCause site_before site_now stopped → CrewRunCause runs_before runs_now stopped → HasSharedCause crew_before crew_now answer
  shared_told log stopped status answer is (inl ends) sink cause run = shared_counts log stopped status answer is ends sink cause run
  shared_told log stopped status answer is (inr (e, done)) sink cause run =
      let none = done_is_none log stopped (subst IsDone is done) in
      subst (HasSharedCause crew_before crew_now) (sym e)
      (subst (StopHasSharedCause site_before site_now) none cause, subst (CrewRunCause runs_before runs_now) none run)

-- so no count of a crew of one rises unseen, and none of a larger one where nothing stopped it
module _ (site_before site_now sink_before sink_now : ℕ) (log : Log) (stopped : Option Stop) (status answer : Status) (is : status ≡ status_of log stopped) (ends : EndsTold sink_before sink_now status answer)
    (sink : IsDone answer → sink_now ≡ sink_before) where
  counts_alone : (runs_before runs_now : List ℕ) → length runs_now ≡ length runs_before → StopHasCountedCause site_before site_now stopped → CrewRunCause runs_before runs_now stopped → length runs_before ≡ 1 →
      HasAloneCause (crew_before site_before site_now runs_before runs_now sink_before sink_now) (crew_now site_before site_now runs_before runs_now sink_before sink_now) answer
  counts_alone (before ∷ []) (now ∷ []) many cause run one =
      told_counted site_before site_now before now sink_before sink_now log stopped status answer is ends sink cause (alone_run before now stopped run)
  counts_alone [] runs_now many cause run one = absurd (omega (arith, one))
  counts_alone (before ∷ []) [] many cause run one = absurd (omega (arith, many))
  counts_alone (before ∷ []) (now ∷ other ∷ others) many cause run one = absurd (omega (arith, many))
  counts_alone (before ∷ other ∷ others) runs_now many cause run one = absurd (omega (arith, one))

  pub crew_counted : (runs_before runs_now : List ℕ) → length runs_now ≡ length runs_before → CrewCountedCause (length runs_before) site_before site_now stopped → CrewRunCause runs_before runs_now stopped →
      HasCrewCause (length runs_before) (crew_before site_before site_now runs_before runs_now sink_before sink_now) (crew_now site_before site_now runs_before runs_now sink_before sink_now) answer
  crew_counted runs_before runs_now many cause run = record {
    any = shared_told site_before site_now runs_before runs_now sink_before sink_now log stopped status answer is ends sink cause.any run;
    alone = λ one. counts_alone runs_before runs_now many (cause.alone one) run one;
  }

-- by what the runners of a crew count
pub crew_answers : {R : Type 0} (count : R → ℕ) (before now : List R) (site_before site_now sink_before sink_now : ℕ) (log : Log) (stopped : Option Stop) (status answer : Status) → status ≡ status_of log stopped →
    EndsTold sink_before sink_now status answer → (IsDone answer → sink_now ≡ sink_before) → length now ≡ length before → CrewCountedCause (length before) site_before site_now stopped → CrewRunCause (map count before) (map count now) stopped →
    HasCrewCause (length before) (record { site = site_before; runners = map count before; sink = sink_before }) (record { site = site_now; runners = map count now; sink = sink_now }) answer
crew_answers count before now site_before site_now sink_before sink_now log stopped status answer is ends sink many cause run =
    let is_long = length-map before count in
    subst (λ (jobs : ℕ). HasCrewCause jobs (record { site = site_before; runners = map count before; sink = sink_before }) (record { site = site_now; runners = map count now; sink = sink_now }) answer) is_long
    (crew_counted site_before site_now sink_before sink_now log stopped status answer is ends sink (map count before) (map count now) (length-map now count ∙ (many ∙ sym is_long))
    (subst (λ (jobs : ℕ). CrewCountedCause jobs site_before site_now stopped) (sym is_long) cause) run)

-- ---- what is printed

-- what is answered where the sink failed
pub ends_after : (before now : ℕ) (status : Status) → Rose before now → Ends before now status (after_sink_fault status)
ends_after before now (Done read ran removed) rose = inr (inr (refl, tt, rose))
ends_after before now (Command rule status) rose = inl refl
ends_after before now (IllegalRead rule text) rose = inl refl
ends_after before now (IllegalWrite rule text) rose = inl refl
ends_after before now (Unwritten rule path) rose = inl refl
ends_after before now (TooManyReads rule) rose = inl refl
ends_after before now (Usage place) rose = inl refl
ends_after before now NotInit rose = inl refl
ends_after before now AlreadyInit rose = inl refl
ends_after before now (BadStore offset) rose = inl refl
ends_after before now (Parse fault) rose = inl refl
ends_after before now (CircularDirs cycle) rose = inl refl
ends_after before now (CircularCommands cycle) rose = inl refl
ends_after before now (NoSuchGroup group) rose = inl refl
ends_after before now (UserFile path) rose = inl refl
ends_after before now SiteFault rose = inl refl
ends_after before now RunFault rose = inl refl
ends_after before now SinkFault rose = inl refl
ends_after before now TellFault rose = inl refl
ends_after before now (Limit what number) rose = inl refl
ends_after before now Memory rose = inl refl
ends_after before now (Differs path) rose = inl refl

-- the sink's failure is no want of memory
pub memory_after : (status : Status) → after_sink_fault status ≡ Memory → status ≡ Memory
memory_after (Done read ran removed) is = absurd (cc is)
memory_after (Command rule status) is = is
memory_after (IllegalRead rule text) is = is
memory_after (IllegalWrite rule text) is = is
memory_after (Unwritten rule path) is = is
memory_after (TooManyReads rule) is = is
memory_after (Usage place) is = is
memory_after NotInit is = is
memory_after AlreadyInit is = is
memory_after (BadStore offset) is = is
memory_after (Parse fault) is = is
memory_after (CircularDirs cycle) is = is
memory_after (CircularCommands cycle) is = is
memory_after (NoSuchGroup group) is = is
memory_after (UserFile path) is = is
memory_after SiteFault is = is
memory_after RunFault is = is
memory_after SinkFault is = is
memory_after TellFault is = is
memory_after (Limit what number) is = is
memory_after Memory is = is
memory_after (Differs path) is = is

-- nothing was printed, for want of memory
pub prints_nothing : (status : Status) (text : List ℕ) (before now : ℕ) (held : List ℕ) → Prints status text before now held held Memory
prints_nothing status text before now held = record {
  part = ([], text, refl, sym (append-nil held));
  done = λ is. absurd is;
  all = λ other _. absurd (other refl);
  untold = λ _ _. refl;
}

-- a runner that counts no failures never failed
pub never_rose : OneRose (0 ∷ []) (0 ∷ []) → ⊥
never_rose one = by one.at one.was one.is one.stood one.stands one.rose
  where
    by : (at was is : ℕ) → slice_get (0 ∷ []) at ≡ Some was → slice_get (0 ∷ []) at ≡ Some is → Rose was is → ⊥
    by zero was is stood stands (inl more) = let none : was ≡ 0 = cc stood in let same : is ≡ 0 = cc stands in omega (arith, none, same, more)
    by zero was is stood stands (inr end) = let same : is ≡ 0 = cc stands in omega (arith, same, end)
    by (suc at) was is stood stands rose = absurd (cc stood)

-- the log of an update for which there was no memory
abbrev pub nothing_logged : Log
nothing_logged = record { read = []; removed = []; ran = []; ended = []; steps = [] }

-- where no rule was begun none lacks its end
pub none_begun : (jobs : ℕ) → EndsFirst jobs nothing_logged
none_begun jobs = record { left = []; others = []; begun = record { all = IsPermutation-refl []; alone = λ _. refl; steps = tt } }

-- an update for which there was no memory before it began
abbrev pub told_nothing : (jobs : ℕ) (site keep_going : Bool) (says : Log → List (Option (List ℕ)) → Type 0) → says nothing_logged [] → (holds : Log → Option Stop → Type 0) → holds nothing_logged (Some (Outside NoMemory)) → (w : World) → Told jobs site keep_going says holds w w []
told_nothing jobs site keep_going says none holds so w = record {
  log = nothing_logged;
  because = [];
  said = none;
  stopped = Some (Outside NoMemory);
  begun = refl;
  logged = none_begun jobs;
  so = so;
  unopened = λ _. inr (record { world = inl refl; empty = record { read = refl; removed = refl; ran = refl; ended = refl; steps = refl } });
}

pub prints_no_update : (jobs : ℕ) (site keep_going : Bool) (says : Log → List (Option (List ℕ)) → Type 0) → says nothing_logged [] → (holds : Log → Option Stop → Type 0) → holds nothing_logged (Some (Outside NoMemory)) → (hears : Log → Status → Status → Type 0) → hears nothing_logged Memory Memory → (w : World) (before now : ℕ) (held : List ℕ) →
    PrintsUpdate jobs site keep_going says holds hears w w [] before now held held Memory
prints_no_update jobs site keep_going says none holds so hears unheard w before now held = record {
  told = told_nothing jobs site keep_going says none holds so w;
  status = Memory;
  heard = unheard;
  ends = inl refl;
  prints = prints_nothing Memory (lines (told_nothing jobs site keep_going says none holds so w).log [] Memory) before now held;
}

-- of an update that began no rule nothing is said
pub says_none : {S : Type 0} (site : Site S) (old : S) (explain : Bool) → SaysWhyOf site old explain nothing_logged []
says_none site old true = (([], refl), λ tells kept asked. ([], inl (refl, refl)))
says_none site old false = (([], refl), λ tells kept asked. ([], inl (refl, refl)))

-- the lines of an update over a world that is this one, of whose rules, log and reporters less is said
module _ (jobs : ℕ) (site keep_going : Bool) (P Q : Log → List (Option (List ℕ)) → Type 0) (J L : Log → Option Stop → Type 0) (H I : Log → Status → Status → Type 0) (was world left : World) (ran : List RuleName) (before now : ℕ) (old new : List ℕ) (answer : Status) where
  abbrev told_less : Told jobs site keep_going P J was left ran → ((log : Log) (chains : List (Option (List ℕ))) → P log chains → Q log chains) → ((log : Log) (stopped : Option Stop) → J log stopped → L log stopped) → Told jobs site keep_going Q L was left ran
  told_less told on holds = record {
    log = told.log;
    because = told.because;
    said = on told.log told.because told.said;
    stopped = told.stopped;
    begun = told.begun;
    logged = told.logged;
    so = holds told.log told.stopped told.so;
    unopened = told.unopened;
  }

  pub says_less : was ≡ world → PrintsUpdate jobs site keep_going P J H was left ran before now old new answer → ((log : Log) (chains : List (Option (List ℕ))) → P log chains → Q log chains) → ((log : Log) (stopped : Option Stop) → J log stopped → L log stopped) → ((log : Log) (came status : Status) → H log came status → I log came status)
      → PrintsUpdate jobs site keep_going Q L I world left ran before now old new answer
  says_less same given on holds hears =
      let less : PrintsUpdate jobs site keep_going Q L I was left ran before now old new answer = record {
        told = told_less given.told on holds;
        status = given.status;
        heard = hears given.told.log (status_of given.told.log given.told.stopped) given.status given.heard;
        ends = given.ends;
        prints = given.prints;
      } in
      subst (λ (w : World). PrintsUpdate jobs site keep_going Q L I w left ran before now old new answer) same less

-- ---- how the store was gone on from

module _ (old new : World) (ran : List RuleName) (log : Log) (begun : log.ran ≡ ran) where
  pub opens_so : (stopped : Option Stop) → Unopened old new log stopped → OpensStore old new ran stopped
  opens_so None it = (log, begun, it)
  opens_so (Some NoStore) it = (log, begun, it)
  opens_so (Some (StoreDamaged offset)) it = (log, begun, it)
  opens_so (Some (Sources fault)) it = (log, begun, it)
  opens_so (Some (IsUsers path written found)) it = (log, begun, it)
  opens_so (Some (Bad rule verdict)) it = (log, begun, it)
  opens_so (Some Run) it = (log, begun, it)
  opens_so (Some Full) it = (log, begun, it)
  opens_so (Some (Outside Fault)) it = (log, begun, it)
  opens_so (Some (Outside (TooLarge number))) it = (log, begun, it)
  opens_so (Some (Outside NoMemory)) it = (Some (Outside NoMemory), log, begun, it)

-- ---- what its log says

-- nothing was begun
pub logs_nothing : (jobs : ℕ) (keep_going : Bool) → Logs jobs keep_going [] (Some (Outside NoMemory))
logs_nothing jobs keep_going = (Some (Outside NoMemory), nothing_logged, refl, none_begun jobs)

module _ (jobs : ℕ) (keep_going : Bool) (ran : List RuleName) (log : Log) (begun : log.ran ≡ ran) where
  pub logs_so : (stopped : Option Stop) → IsLogged jobs keep_going log stopped → Logs jobs keep_going ran stopped
  logs_so None it = (log, begun, it)
  logs_so (Some NoStore) it = (log, begun, it)
  logs_so (Some (StoreDamaged offset)) it = (log, begun, it)
  logs_so (Some (Sources fault)) it = (log, begun, it)
  logs_so (Some (IsUsers path written found)) it = (log, begun, it)
  logs_so (Some (Bad rule verdict)) it = (log, begun, it)
  logs_so (Some Run) it = (log, begun, it)
  logs_so (Some Full) it = (log, begun, it)
  logs_so (Some (Outside Fault)) it = (log, begun, it)
  logs_so (Some (Outside (TooLarge number))) it = (log, begun, it)
  logs_so (Some (Outside NoMemory)) it = (Some (Outside NoMemory), log, begun, it)

-- ---- what was run

-- the runner was given what was begun, but for the last where there was no memory
pub untold_runs : (ran : List RuleName) (old new : List (Names × List ℕ)) (stopped : Option Stop) → RunsThese ran old new stopped → RunsThese ran old new (Some (Outside NoMemory))
untold_runs ran old new None runs = inl runs
untold_runs ran old new (Some NoStore) runs = inl runs
untold_runs ran old new (Some (StoreDamaged offset)) runs = inl runs
untold_runs ran old new (Some (Sources fault)) runs = inl runs
untold_runs ran old new (Some (IsUsers path written found)) runs = inl runs
untold_runs ran old new (Some (Bad rule verdict)) runs = inl runs
untold_runs ran old new (Some Run) runs = inl runs
untold_runs ran old new (Some Full) runs = inl runs
untold_runs ran old new (Some (Outside Fault)) runs = inl runs
untold_runs ran old new (Some (Outside (TooLarge number))) runs = inl runs
untold_runs ran old new (Some (Outside NoMemory)) runs = runs

-- so was each of a crew, of its share
untold_share : (rules : List RuleName) (old new : List (Names × List ℕ)) (stopped : Option Stop) → RunsShare rules old new stopped → RunsShare rules old new (Some (Outside NoMemory))
untold_share rules old new None runs = inl runs
untold_share rules old new (Some stop) runs = runs

pub untold_crew : (ran : List RuleName) (before now : List (List (Names × List ℕ))) (stopped : Option Stop) → CrewRuns ran before now stopped → CrewRuns ran before now (Some (Outside NoMemory))
untold_crew ran before now stopped runs = record {
  many = runs.many;
  seats = runs.seats;
  each = runs.each;
  below = runs.below;
  shares = λ seat old new stood stands. untold_share (share seat runs.seats ran) old new stopped (runs.shares seat old new stood stands);
  alone = λ old new one same. untold_runs ran old new stopped (runs.alone old new one same);
}
