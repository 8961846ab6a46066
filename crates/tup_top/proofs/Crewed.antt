-- A crew whose first runner did all: what one runner counts and ran is what the crew does.
use Rattle.std.proofs.Common.{◌≡◌, ℕ, zero, suc, ◌<◌, List, [], ◌∷◌, ◌++◌, drop, length, map, get_or, Some, Result, Err, inl, inr, refl, ap, subst, arith}
use Rattle.std.specs.Prelude.{slice_get, slice_set}
use Rattle.std.specs.Result.{result_err}
use Rattle.tup_path.specs.Name.{Names}
use Rattle.tup_runner.specs.Next.{Next}
use Rattle.tup_site.specs.World.{World}
use Rattle.tup_site.specs.declared.fault.SiteFailed.TheVariants.{Memory as NoMemory}
use Rattle.tup_compare.specs.Compared.{RunsToCompare}
use Rattle.tup_promise.specs.Cause.{OneRose}
use Rattle.tup_compare.specs.declared.compare.Compared.{Compared}
use Rattle.tup_promise.specs.declared.stop.Stop.{Stop}
use Rattle.tup_promise.specs.declared.stop.Stop.TheVariants.{Outside}
use Rattle.tup_top.specs.Crew.{CrewCompares}
use Rattle.tup_top.specs.Promise.{Counts, beside, AreSteady, OneFailedAtMost, HasAloneCause, HasCountedCause, HasComparedCause, HasCrewCause, HasSharedCause}
use Rattle.tup_top.specs.declared.status.Status.{Status}
use Rattle.tup_top.specs.declared.status.Status.TheVariants.{Done, Command, IllegalRead, IllegalWrite, Unwritten, TooManyReads, Usage, NotInit, AlreadyInit, BadStore, Parse, CircularDirs, CircularCommands, NoSuchGroup, UserFile, SiteFault, RunFault, SinkFault, TellFault, Limit, Memory, Differs}
use Rattle.tup_top.specs.Status.{IfCompared}
use Rattle.tup_top.proofs.Causes.{of_one, never_rose}
use Rattle.tup_top.proofs.Verified.{compared_on}

-- a count of some runners that rose is one of the crew's
slice_get_more : {A : Type 0} (list others : List A) (at : ℕ) (one : A) → slice_get list at ≡ Some one → slice_get (list ++ others) at ≡ Some one
slice_get_more [] others at one is = absurd (cc is)
slice_get_more (first ∷ list) others zero one is = is
slice_get_more (first ∷ list) others (suc at) one is = slice_get_more list others at one is

one_of_more : (before now others : List ℕ) → OneRose before now → OneRose (before ++ others) (now ++ others)
one_of_more before now others one = record {
  at = one.at;
  was = one.was;
  is = one.is;
  stood = slice_get_more before others one.at one.was one.stood;
  stands = slice_get_more now others one.at one.is one.stands;
  rose = one.rose;
}

-- what some runners of a crew count, and the others stood still
module _ (site_before site_now : ℕ) (run_before run_now : List ℕ) (sink_before sink_now : ℕ) (others : List ℕ) where
  abbrev some_before : Counts
  some_before = record { site = site_before; runners = run_before; sink = sink_before }

  abbrev some_now : Counts
  some_now = record { site = site_now; runners = run_now; sink = sink_now }

  abbrev crew_before : Counts
  crew_before = record { site = site_before; runners = run_before ++ others; sink = sink_before }

  abbrev crew_now : Counts
  crew_now = record { site = site_now; runners = run_now ++ others; sink = sink_now }

  same_runners : run_now ≡ run_before → run_now ++ others ≡ run_before ++ others
  same_runners same = ap (λ (l : List ℕ). l ++ others) same

  steady : AreSteady some_before some_now → AreSteady crew_before crew_now
  steady (site, run) = (site, same_runners run)

  failed_once : OneFailedAtMost some_before some_now → OneFailedAtMost crew_before crew_now
  failed_once (inl same) = inl (steady same)
  failed_once (inr (inl failed)) = inr (inl (failed.0, same_runners failed.1))
  failed_once (inr (inr failed)) = inr (inr (failed.0, one_of_more run_before run_now others failed.1))

  -- their causes are those of the crew
  causes_of_crew : (status : Status) → HasCountedCause some_before some_now status → HasCountedCause crew_before crew_now status
  causes_of_crew (Done read ran removed) cause = (steady cause.0, cause.1)
  causes_of_crew (Command rule status) cause = steady cause
  causes_of_crew (IllegalRead rule text) cause = steady cause
  causes_of_crew (IllegalWrite rule text) cause = steady cause
  causes_of_crew (Unwritten rule path) cause = steady cause
  causes_of_crew (TooManyReads rule) cause = steady cause
  causes_of_crew (Usage place) cause = cause
  causes_of_crew NotInit cause = steady cause
  causes_of_crew AlreadyInit cause = cause
  causes_of_crew (BadStore offset) cause = steady cause
  causes_of_crew (Parse fault) cause = steady cause
  causes_of_crew (CircularDirs cycle) cause = steady cause
  causes_of_crew (CircularCommands cycle) cause = steady cause
  causes_of_crew (NoSuchGroup group) cause = steady cause
  causes_of_crew (UserFile path) cause = steady cause
  causes_of_crew SiteFault cause = (cause.0, same_runners cause.1)
  causes_of_crew RunFault cause = (cause.0, one_of_more run_before run_now others cause.1)
  causes_of_crew SinkFault cause = (steady cause.0, cause.1)
  causes_of_crew TellFault cause = cause
  causes_of_crew (Limit what number) cause = (steady cause.0, cause.1)
  causes_of_crew Memory cause = failed_once cause
  causes_of_crew (Differs path) cause = cause

  shared_of_crew : (status : Status) → HasSharedCause some_before some_now status → HasSharedCause crew_before crew_now status
  shared_of_crew (Done read ran removed) cause = (steady cause.0, cause.1)
  shared_of_crew (Command rule status) cause = tt
  shared_of_crew (IllegalRead rule text) cause = tt
  shared_of_crew (IllegalWrite rule text) cause = tt
  shared_of_crew (Unwritten rule path) cause = tt
  shared_of_crew (TooManyReads rule) cause = tt
  shared_of_crew (Usage place) cause = cause
  shared_of_crew NotInit cause = steady cause
  shared_of_crew AlreadyInit cause = cause
  shared_of_crew (BadStore offset) cause = steady cause
  shared_of_crew (Parse fault) cause = steady cause
  shared_of_crew (CircularDirs cycle) cause = steady cause
  shared_of_crew (CircularCommands cycle) cause = steady cause
  shared_of_crew (NoSuchGroup group) cause = steady cause
  shared_of_crew (UserFile path) cause = steady cause
  shared_of_crew SiteFault cause = cause
  shared_of_crew RunFault cause = one_of_more run_before run_now others cause
  shared_of_crew SinkFault cause = (steady cause.0, cause.1)
  shared_of_crew TellFault cause = steady cause
  shared_of_crew (Limit what number) cause = cause
  shared_of_crew Memory cause = tt
  shared_of_crew (Differs path) cause = cause

  -- so are those of an update by one of them
  alone_of_crew : (status : Status) → HasAloneCause some_before some_now status → HasAloneCause crew_before crew_now status
  alone_of_crew (Done read ran removed) cause = causes_of_crew (Done read ran removed) cause
  alone_of_crew (Command rule status) cause = causes_of_crew (Command rule status) cause
  alone_of_crew (IllegalRead rule text) cause = causes_of_crew (IllegalRead rule text) cause
  alone_of_crew (IllegalWrite rule text) cause = causes_of_crew (IllegalWrite rule text) cause
  alone_of_crew (Unwritten rule path) cause = causes_of_crew (Unwritten rule path) cause
  alone_of_crew (TooManyReads rule) cause = causes_of_crew (TooManyReads rule) cause
  alone_of_crew (Usage place) cause = causes_of_crew (Usage place) cause
  alone_of_crew NotInit cause = causes_of_crew NotInit cause
  alone_of_crew AlreadyInit cause = causes_of_crew AlreadyInit cause
  alone_of_crew (BadStore offset) cause = causes_of_crew (BadStore offset) cause
  alone_of_crew (Parse fault) cause = causes_of_crew (Parse fault) cause
  alone_of_crew (CircularDirs cycle) cause = causes_of_crew (CircularDirs cycle) cause
  alone_of_crew (CircularCommands cycle) cause = causes_of_crew (CircularCommands cycle) cause
  alone_of_crew (NoSuchGroup group) cause = causes_of_crew (NoSuchGroup group) cause
  alone_of_crew (UserFile path) cause = causes_of_crew (UserFile path) cause
  alone_of_crew SiteFault cause = causes_of_crew SiteFault cause
  alone_of_crew RunFault cause = causes_of_crew RunFault cause
  alone_of_crew SinkFault cause = causes_of_crew SinkFault cause
  alone_of_crew TellFault cause = steady cause
  alone_of_crew (Limit what number) cause = causes_of_crew (Limit what number) cause
  alone_of_crew Memory cause = causes_of_crew Memory cause
  alone_of_crew (Differs path) cause = causes_of_crew (Differs path) cause

  -- and those of an update by some of its runners
  pub some_of_crew : (jobs : ℕ) (status : Status) → HasCrewCause jobs some_before some_now status → HasCrewCause jobs crew_before crew_now status
  some_of_crew jobs status cause = record {
    any = shared_of_crew status cause.any;
    alone = λ one. alone_of_crew status (cause.alone one);
  }

  -- those of a comparison too
  compared_of_crew : (status : Status) → HasComparedCause some_before some_now status → HasComparedCause crew_before crew_now status
  compared_of_crew (Differs path) cause = steady cause
  compared_of_crew (Done read ran removed) cause = causes_of_crew (Done read ran removed) cause
  compared_of_crew (Command rule status) cause = causes_of_crew (Command rule status) cause
  compared_of_crew (IllegalRead rule text) cause = causes_of_crew (IllegalRead rule text) cause
  compared_of_crew (IllegalWrite rule text) cause = causes_of_crew (IllegalWrite rule text) cause
  compared_of_crew (Unwritten rule path) cause = causes_of_crew (Unwritten rule path) cause
  compared_of_crew (TooManyReads rule) cause = causes_of_crew (TooManyReads rule) cause
  compared_of_crew (Usage place) cause = causes_of_crew (Usage place) cause
  compared_of_crew NotInit cause = causes_of_crew NotInit cause
  compared_of_crew AlreadyInit cause = causes_of_crew AlreadyInit cause
  compared_of_crew (BadStore offset) cause = causes_of_crew (BadStore offset) cause
  compared_of_crew (Parse fault) cause = causes_of_crew (Parse fault) cause
  compared_of_crew (CircularDirs cycle) cause = causes_of_crew (CircularDirs cycle) cause
  compared_of_crew (CircularCommands cycle) cause = causes_of_crew (CircularCommands cycle) cause
  compared_of_crew (NoSuchGroup group) cause = causes_of_crew (NoSuchGroup group) cause
  compared_of_crew (UserFile path) cause = causes_of_crew (UserFile path) cause
  compared_of_crew SiteFault cause = causes_of_crew SiteFault cause
  compared_of_crew RunFault cause = causes_of_crew RunFault cause
  compared_of_crew SinkFault cause = causes_of_crew SinkFault cause
  compared_of_crew TellFault cause = causes_of_crew TellFault cause
  compared_of_crew (Limit what number) cause = causes_of_crew (Limit what number) cause
  compared_of_crew Memory cause = causes_of_crew Memory cause

-- so they are where the first runner of a crew did all
pub crew_compared : {R : Type 0} (count : R → ℕ) (crew : List R) (old now : R) (site_before site_now sink_before sink_now : ℕ) (status : Status) → 0 < length crew → old ≡ get_or crew 0 old →
    HasComparedCause (of_one site_before (count old) sink_before) (of_one site_now (count now) sink_now) status →
    HasComparedCause (record { site = site_before; runners = map count crew; sink = sink_before }) (record { site = site_now; runners = map count (slice_set crew 0 now); sink = sink_now }) status
crew_compared {R} count [] old now site_before site_now sink_before sink_now status some first cause = absurd (omega (arith, some))
crew_compared {R} count (one ∷ others) old now site_before site_now sink_before sink_now status some first cause =
    subst (λ (r : R). HasComparedCause (record { site = site_before; runners = count r ∷ map count others; sink = sink_before }) (record { site = site_now; runners = count now ∷ map count others; sink = sink_now }) status) first
    (compared_of_crew site_before site_now (count old ∷ []) (count now ∷ []) sink_before sink_now (map count others) status cause)

-- what the first runner ran is what the crew ran
module _ {R : Type 0} (ran_by : R → List (Names × List ℕ)) (crew : List R) (old now : R) (some : 0 < length crew) (first : old ≡ get_or crew 0 old) where
  -- what it ran for a comparison
  compares_of_first : (next : Next) (w : World) (compared : Result Compared Stop) → RunsToCompare next w (ran_by old) (ran_by now) (result_err compared) → CrewCompares next w (map ran_by crew) (map ran_by (slice_set crew 0 now)) compared
  compares_of_first next w compared runs = by crew some first
    where
      by : (crew : List R) → 0 < length crew → old ≡ get_or crew 0 old → CrewCompares next w (map ran_by crew) (map ran_by (slice_set crew 0 now)) compared
      by [] some first = absurd (omega (arith, some))
      by (one ∷ others) some first = subst (λ (r : R). RunsToCompare next w (ran_by r) (ran_by now) (result_err compared) × (map ran_by others ≡ map ran_by others)) first (runs, refl)

  pub crew_compares : (next : Next) (w : World) (status : Status) → IfCompared status (λ compared. RunsToCompare next w (ran_by old) (ran_by now) (result_err compared))
      → IfCompared status (CrewCompares next w (map ran_by crew) (map ran_by (slice_set crew 0 now)))
  crew_compares next w status runs =
      compared_on (λ compared. RunsToCompare next w (ran_by old) (ran_by now) (result_err compared)) (CrewCompares next w (map ran_by crew) (map ran_by (slice_set crew 0 now))) (compares_of_first next w) status runs

-- where there was no memory to begin it
pub no_crew_ran : {R : Type 0} (ran_by : R → List (Names × List ℕ)) (next : Next) (w : World) (crew : List R) → 0 < length crew → CrewCompares next w (map ran_by crew) (map ran_by crew) (Err (Outside NoMemory))
no_crew_ran {R} ran_by next w [] some = absurd (omega (arith, some))
no_crew_ran {R} ran_by next w (one ∷ others) some = (inl refl, refl)

-- the others are as they were
pub others_stay : {R : Type 0} (crew : List R) (now : R) → drop 1 (slice_set crew 0 now) ≡ drop 1 crew
others_stay [] now = refl
others_stay (one ∷ others) now = refl

-- ---- a crew that did nothing

-- what is counted beside a runner that never failed is counted beside any crew
module _ (site_before site_now sink_before sink_now : ℕ) (runners : List ℕ) where
  still : AreSteady (of_one site_before 0 sink_before) (of_one site_now 0 sink_now) → AreSteady (beside runners site_before sink_before) (beside runners site_now sink_now)
  still steady = (steady.0, refl)

  one_failed : OneFailedAtMost (of_one site_before 0 sink_before) (of_one site_now 0 sink_now) → OneFailedAtMost (beside runners site_before sink_before) (beside runners site_now sink_now)
  one_failed (inl steady) = inl (still steady)
  one_failed (inr (inl site)) = inr (inl (site.0, refl))
  one_failed (inr (inr runner)) = absurd (never_rose runner.1)

  idle_crew : (status : Status) → HasCountedCause (of_one site_before 0 sink_before) (of_one site_now 0 sink_now) status → HasCountedCause (beside runners site_before sink_before) (beside runners site_now sink_now) status
  idle_crew (Done read ran removed) cause = (still cause.0, cause.1)
  idle_crew (Command rule status) cause = still cause
  idle_crew (IllegalRead rule text) cause = still cause
  idle_crew (IllegalWrite rule text) cause = still cause
  idle_crew (Unwritten rule path) cause = still cause
  idle_crew (TooManyReads rule) cause = still cause
  idle_crew (Usage place) cause = cause
  idle_crew NotInit cause = still cause
  idle_crew AlreadyInit cause = cause
  idle_crew (BadStore offset) cause = still cause
  idle_crew (Parse fault) cause = still cause
  idle_crew (CircularDirs cycle) cause = still cause
  idle_crew (CircularCommands cycle) cause = still cause
  idle_crew (NoSuchGroup group) cause = still cause
  idle_crew (UserFile path) cause = still cause
  idle_crew SiteFault cause = (cause.0, refl)
  idle_crew RunFault cause = absurd (never_rose cause.1)
  idle_crew SinkFault cause = (still cause.0, cause.1)
  idle_crew TellFault cause = cause
  idle_crew (Limit what number) cause = (still cause.0, cause.1)
  idle_crew Memory cause = one_failed cause
  idle_crew (Differs path) cause = cause

  -- so it is where a reporter may have failed
  pub idle_alone : (status : Status) → HasAloneCause (of_one site_before 0 sink_before) (of_one site_now 0 sink_now) status → HasAloneCause (beside runners site_before sink_before) (beside runners site_now sink_now) status
  idle_alone (Done read ran removed) cause = idle_crew (Done read ran removed) cause
  idle_alone (Command rule status) cause = idle_crew (Command rule status) cause
  idle_alone (IllegalRead rule text) cause = idle_crew (IllegalRead rule text) cause
  idle_alone (IllegalWrite rule text) cause = idle_crew (IllegalWrite rule text) cause
  idle_alone (Unwritten rule path) cause = idle_crew (Unwritten rule path) cause
  idle_alone (TooManyReads rule) cause = idle_crew (TooManyReads rule) cause
  idle_alone (Usage place) cause = idle_crew (Usage place) cause
  idle_alone NotInit cause = idle_crew NotInit cause
  idle_alone AlreadyInit cause = idle_crew AlreadyInit cause
  idle_alone (BadStore offset) cause = idle_crew (BadStore offset) cause
  idle_alone (Parse fault) cause = idle_crew (Parse fault) cause
  idle_alone (CircularDirs cycle) cause = idle_crew (CircularDirs cycle) cause
  idle_alone (CircularCommands cycle) cause = idle_crew (CircularCommands cycle) cause
  idle_alone (NoSuchGroup group) cause = idle_crew (NoSuchGroup group) cause
  idle_alone (UserFile path) cause = idle_crew (UserFile path) cause
  idle_alone SiteFault cause = idle_crew SiteFault cause
  idle_alone RunFault cause = idle_crew RunFault cause
  idle_alone SinkFault cause = idle_crew SinkFault cause
  idle_alone TellFault cause = still cause
  idle_alone (Limit what number) cause = idle_crew (Limit what number) cause
  idle_alone Memory cause = idle_crew Memory cause
  idle_alone (Differs path) cause = idle_crew (Differs path) cause
