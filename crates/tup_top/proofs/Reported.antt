-- How an update ends whose reporters were told before its lines were printed.
use Rattle.std.proofs.Common.{◌≡◌, ◌==◌, inl, inr, ℕ, Bool, Err, IsTrue, true, false, List, [], ◌∷◌, append-nil, Option, None, Some, refl, sym, subst, ◌∙◌}
use Rattle.std.proofs.lemmas.Bool.{false≢true}
use Rattle.std.specs.Prelude.{length}
use Rattle.tup_site.specs.World.{World}
use Rattle.tup_site.specs.declared.fault.SiteFailed.TheVariants.{Fault, TooLarge, Memory as NoMemory}
use Rattle.tup_rule.specs.declared.rule.RuleName.{RuleName}
use Rattle.tup_access.specs.declared.verdict.Verdict.TheVariants.{Good, Failed, IllegalRead as ReadsIllegally, IllegalWrite as WritesIllegally, Unwritten as LeavesUnwritten, TooManyReads as ReadsTooOften}
use Rattle.tup_tell.specs.Parted.{AreTold}
use Rattle.tup_tell.specs.declared.event.Event.{Event}
use Rattle.tup_tell.proofs.Parting.{none_at_all}
use Rattle.tup_promise.specs.declared.fault.SourcesFault.{SourcesFault}
use Rattle.tup_promise.specs.declared.fault.SourcesFault.TheVariants as sources
use Rattle.tup_promise.specs.declared.log.Log.{Log}
use Rattle.tup_promise.specs.declared.stop.Stop.{Stop}
use Rattle.tup_promise.specs.declared.stop.Stop.TheVariants.{NoStore, BadStore as StoreDamaged, Sources, UserFile as IsUsers, Bad, Run, Full, Outside}
use Rattle.tup_top.specs.Demo.{demo_world}
use Rattle.tup_top.specs.Printed.{Ends, EndsTold, PrintsUpdate, hears_none}
use Rattle.tup_top.specs.Status.{after_telling, log_of_todo, status_of, status_of_sources}
use Rattle.tup_top.specs.Telling.{Hears, TellsTodo, TellsUpdate, events_of}
use Rattle.tup_top.specs.declared.status.Status.{Status}
use Rattle.tup_top.specs.declared.status.Status.TheVariants.{Done, Command, IllegalRead, IllegalWrite, Unwritten, TooManyReads, Usage, NotInit, AlreadyInit, BadStore, Parse, CircularDirs, CircularCommands, NoSuchGroup, UserFile, SiteFault, RunFault, SinkFault, TellFault, Limit, Memory, Differs}
use Rattle.tup_top.proofs.Causes.{nothing_logged, says_less, told_nothing}

-- ---- the answer

module _ (before now : ℕ) where
  -- want of memory is answered as such
  memory_ends : (answer : Status) → Ends before now Memory answer → answer ≡ Memory
  memory_ends answer (inl e) = e
  memory_ends answer (inr (inl e)) = e
  memory_ends answer (inr (inr (e, done, rose))) = absurd done

  told_fault : (read ran removed : ℕ) (answer : Status) → Ends before now TellFault answer → EndsTold before now (Done read ran removed) answer
  told_fault read ran removed answer (inl e) = inr (e, tt)
  told_fault read ran removed answer (inr (inl e)) = inl (inr (inl e))
  told_fault read ran removed answer (inr (inr (e, done, rose))) = absurd done

  after_fault : (came answer : Status) → Ends before now (after_telling true false came) answer → EndsTold before now came answer
  after_fault (Done read ran removed) answer ends = told_fault read ran removed answer ends
  after_fault (Command rule status) answer ends = inl ends
  after_fault (IllegalRead rule text) answer ends = inl ends
  after_fault (IllegalWrite rule text) answer ends = inl ends
  after_fault (Unwritten rule path) answer ends = inl ends
  after_fault (TooManyReads rule) answer ends = inl ends
  after_fault (Usage place) answer ends = inl ends
  after_fault NotInit answer ends = inl ends
  after_fault AlreadyInit answer ends = inl ends
  after_fault (BadStore offset) answer ends = inl ends
  after_fault (Parse fault) answer ends = inl ends
  after_fault (CircularDirs cycle) answer ends = inl ends
  after_fault (CircularCommands cycle) answer ends = inl ends
  after_fault (NoSuchGroup group) answer ends = inl ends
  after_fault (UserFile path) answer ends = inl ends
  after_fault SiteFault answer ends = inl ends
  after_fault RunFault answer ends = inl ends
  after_fault SinkFault answer ends = inl ends
  after_fault TellFault answer ends = inl ends
  after_fault (Limit what number) answer ends = inl ends
  after_fault Memory answer ends = inl ends
  after_fault (Differs path) answer ends = inl ends

  -- what is answered where one status was printed is so by the status that the update came to
  pub ends_told : (all none_failed : Bool) (came answer : Status) → Ends before now (after_telling all none_failed came) answer → EndsTold before now came answer
  ends_told true true came answer ends = inl ends
  ends_told true false came answer ends = after_fault came answer ends
  ends_told false none_failed came answer ends = inl (inr (inl (memory_ends answer ends)))

  -- no reporter is blamed where none failed
  pub unblamed : (came answer : Status) → (came ≡ TellFault → ⊥) → Ends before now came answer → answer ≡ TellFault → ⊥
  unblamed came answer other (inl e) is = other (sym e ∙ is)
  unblamed came answer other (inr (inl e)) is = absurd (cc (e, is))
  unblamed came answer other (inr (inr (e, done, rose))) is = absurd (cc (e, is))

  pub blamed_so : (all none_failed : Bool) (came answer : Status) → (came ≡ TellFault → ⊥) → Ends before now (after_telling all none_failed came) answer → answer ≡ TellFault → none_failed ≡ true → ⊥
  blamed_so true true came answer other ends is none = unblamed came answer other ends is
  blamed_so true false came answer other ends is none = absurd (false≢true none)
  blamed_so false none_failed came answer other ends is none = absurd (cc (memory_ends answer ends, is))

-- no update comes to this fault
sources_tell_none : (fault : SourcesFault) → status_of_sources fault ≡ TellFault → ⊥
sources_tell_none (sources.TooManyFiles count) is = absurd (cc is)
sources_tell_none (sources.Parse fault) is = absurd (cc is)
sources_tell_none (sources.CircularDirs cycle) is = absurd (cc is)
sources_tell_none (sources.TooManyCommands count) is = absurd (cc is)
sources_tell_none (sources.NoSuchGroup group) is = absurd (cc is)
sources_tell_none (sources.TooManyLinks count) is = absurd (cc is)
sources_tell_none (sources.CircularCommands cycle) is = absurd (cc is)

pub comes_otherwise : (log : Log) (stopped : Option Stop) → status_of log stopped ≡ TellFault → ⊥
comes_otherwise log None is = absurd (cc is)
comes_otherwise log (Some NoStore) is = absurd (cc is)
comes_otherwise log (Some (StoreDamaged offset)) is = absurd (cc is)
comes_otherwise log (Some (Sources fault)) is = sources_tell_none fault is
comes_otherwise log (Some (IsUsers path written found)) is = absurd (cc is)
comes_otherwise log (Some (Bad rule Good)) is = absurd (cc is)
comes_otherwise log (Some (Bad rule (Failed status))) is = absurd (cc is)
comes_otherwise log (Some (Bad rule (ReadsIllegally text))) is = absurd (cc is)
comes_otherwise log (Some (Bad rule (WritesIllegally text))) is = absurd (cc is)
comes_otherwise log (Some (Bad rule (LeavesUnwritten path))) is = absurd (cc is)
comes_otherwise log (Some (Bad rule ReadsTooOften)) is = absurd (cc is)
comes_otherwise log (Some Run) is = absurd (cc is)
comes_otherwise log (Some Full) is = absurd (cc is)
comes_otherwise log (Some (Outside Fault)) is = absurd (cc is)
comes_otherwise log (Some (Outside (TooLarge count))) is = absurd (cc is)
comes_otherwise log (Some (Outside NoMemory)) is = absurd (cc is)

-- ---- who was told

module _ {T : Type 0} (told : T → List Event) (faults : T → ℕ) where
  -- where there is no reporter all were told
  pub told_none : (events : List Event) (old kept failed : List T) → old ≡ [] → kept ≡ [] → failed ≡ [] → AreTold told faults events old kept failed
  told_none events old kept failed none left gone =
      subst (λ (l : List T). AreTold told faults events l kept failed) (sym none) (left, gone)

  -- nobody was told, for want of memory
  pub unheard : (old failed : List T) → failed ≡ [] → (log : Log) (came : Status) → Hears told faults old old failed log came Memory
  unheard old failed none log came = record {
    all = false;
    told_all = λ is. absurd (false≢true is);
    cut_off = λ _. none_at_all told faults (events_of log) old failed none;
    status_is = refl;
  }

  -- those that are told nothing are as they were
  told_no_event : (list failed : List T) → failed ≡ [] → AreTold told faults [] list list failed
  told_no_event [] failed none = (refl, none)
  told_no_event (one ∷ more) failed none = inl (one, more, refl, (sym (append-nil (told one)), refl), told_no_event more failed none)

  -- so they are where finding out what an update would do was stopped
  pub hears_no_folder : (old failed : List T) → failed ≡ [] → (stop : Stop) (came : Status) → Hears told faults old old failed (log_of_todo (Err stop)) came came
  hears_no_folder old failed none stop came = record {
    all = true;
    told_all = λ _. told_no_event old failed none;
    cut_off = λ is. absurd (false≢true (sym is));
    status_is = subst (λ (l : List T). came ≡ after_telling true (length l == 0) came) (sym none) refl;
  }

  -- where there is no reporter, an update ends as it came, but for want of memory
  pub heard_none : (old kept failed : List T) → old ≡ [] → (log : Log) (came status : Status) → Hears told faults old kept failed log came status → hears_none log came status
  heard_none old kept failed none log came status hears = by hears.all hears.told_all hears.status_is
    where
      by : (all : Bool) → (IsTrue all → AreTold told faults (events_of log) old kept failed) → status ≡ after_telling all (length failed == 0) came → hears_none log came status
      by true tells is =
          let parts : AreTold told faults (events_of log) [] kept failed = subst (λ (l : List T). AreTold told faults (events_of log) l kept failed) none (tells refl) in
          inl (subst (λ (l : List T). status ≡ after_telling true (length l == 0) came) parts.1 is)
      by false tells is = inr is

  -- so are the lines of a demo, which has none
  pub unheard_prints : (old kept failed : List T) → old ≡ [] → (jobs : ℕ) → jobs ≡ 1 → (says : Log → List (Option (List ℕ)) → Type 0) (holds true_there : Log → Option Stop → Type 0) (was left : World) (ran : List RuleName) (before now : ℕ) (held grown : List ℕ) (answer : Status)
      → ((log : Log) (chains : List (Option (List ℕ))) → says log chains → chains ≡ []) → ((log : Log) (stopped : Option Stop) → holds log stopped → true_there log stopped) → was ≡ demo_world
      → PrintsUpdate jobs true false says holds (Hears told faults old kept failed) was left ran before now held grown answer
      → PrintsUpdate 1 true false (λ log chains. chains ≡ []) true_there hears_none demo_world left ran before now held grown answer
  unheard_prints old kept failed none jobs one says holds true_there was left ran before now held grown answer unsaid so same given =
      says_less 1 true false says (λ log chains. chains ≡ []) holds true_there (Hears told faults old kept failed) hears_none was demo_world left ran before now held grown answer same
      (subst (λ (n : ℕ). PrintsUpdate n true false says holds (Hears told faults old kept failed) was left ran before now held grown answer) one given) unsaid so (heard_none old kept failed none)

-- ---- an update for which there was no memory before it began

pub tells_nothing : (jobs : ℕ) (site keep_going : Bool) (holds : Log → Option Stop → Type 0) → holds nothing_logged (Some (Outside NoMemory)) → (hears : Log → Status → Status → Type 0) → hears nothing_logged Memory Memory → (w : World) (ran : List RuleName) → ran ≡ [] → (before now : ℕ)
    → TellsUpdate jobs site keep_going holds hears w w ran before now Memory
tells_nothing jobs site keep_going holds so hears heard w ran none before now =
    let told = told_nothing jobs site keep_going (λ log chains. chains ≡ []) refl holds so w in
    record {
      log = nothing_logged;
      stopped = Some (Outside NoMemory);
      begun = sym none;
      logged = told.logged;
      so = so;
      unopened = told.unopened;
      status = Memory;
      heard = heard;
      ends = inl refl;
    }

-- and finding out what it would do, for which there was none
pub tells_no_folder : (kept : Type 0) (hears : Log → Status → Status → Type 0) → hears nothing_logged Memory Memory → (w : World) (before now : ℕ) → TellsTodo kept hears w w before now Memory
tells_no_folder kept hears heard w before now = record {
  todo = Err (Outside NoMemory);
  lists = λ _. tt;
  status = Memory;
  heard = heard;
  ends = inl refl;
}
