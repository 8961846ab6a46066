-- What an update says of its store, by what it was prepared to and how its rules ended.
use Rattle.std.proofs.Common.{◌≡◌, ℕ, List, [], Option, Some, None, inl, refl, sym, subst, append-nil}
use Rattle.std.specs.Option.{IfSome}
use Rattle.tup_path.specs.Name.{Names as PathNames}
use Rattle.tup_site.specs.World.{World}
use Rattle.tup_rule.specs.declared.rule.RuleName.{RuleName}
use Rattle.tup_promise.specs.Cause.{CrewCountedCause, HasCountedCause, HasSharedCause, IsWithin}
use Rattle.tup_promise.specs.Ran.{CrewRuns, RunsThese}
use Rattle.tup_promise.specs.Unopened.{IsReadable, Unopened}
use Rattle.tup_promise.specs.declared.log.Log.{Log}
use Rattle.tup_promise.specs.declared.stop.Stop.{Stop}
use Rattle.tup_promise.specs.declared.stop.Stop.TheVariants as stop
use Rattle.tup_site.specs.declared.fault.SiteFailed.TheVariants as failed
use Rattle.tup_phases.specs.Prepared.{StopsBefore}
use Rattle.tup_update.specs.Run.{StopsRunning}
use Rattle.tup_update.proofs.Crewed.{crew_none}

-- whose rules were run, its store was read
pub opened_running : (old new : World) (log : Log) (stopped : Option Stop) → IsReadable old.store → IfSome stopped StopsRunning → Unopened old new log stopped
opened_running old new log None reads stops = reads
opened_running old new log (Some stop.NoStore) reads stops = absurd stops
opened_running old new log (Some (stop.BadStore offset)) reads stops = absurd stops
opened_running old new log (Some (stop.Sources fault)) reads stops = absurd stops
opened_running old new log (Some (stop.UserFile path written found)) reads stops = absurd stops
opened_running old new log (Some (stop.Bad name verdict)) reads stops = reads
opened_running old new log (Some stop.Run) reads stops = reads
opened_running old new log (Some stop.Full) reads stops = reads
opened_running old new log (Some (stop.Outside failed.Fault)) reads stops = inl reads
opened_running old new log (Some (stop.Outside (failed.TooLarge bytes))) reads stops = reads
opened_running old new log (Some (stop.Outside failed.Memory)) reads stops = inl reads

-- ---- one that stopped before any rule was run
-- its site's count is that of one runner
pub before_counted : (jobs before now : ℕ) (by : Stop) → StopsBefore by → HasCountedCause before now (Some by) → CrewCountedCause jobs before now (Some by)
before_counted jobs before now by is counted = record { any = by_kind by is counted; alone = λ one. counted }
  where
    by_kind : (why : Stop) → StopsBefore why → HasCountedCause before now (Some why) → HasSharedCause before now (Some why)
    by_kind stop.NoStore is same = same
    by_kind (stop.BadStore offset) is same = same
    by_kind (stop.Sources fault) is same = same
    by_kind (stop.UserFile path written found) is same = same
    by_kind (stop.Bad name verdict) is same = absurd is
    by_kind stop.Run is same = absurd is
    by_kind stop.Full is same = tt
    by_kind (stop.Outside failed.Fault) is rose = rose
    by_kind (stop.Outside (failed.TooLarge n)) is same = same.1
    by_kind (stop.Outside failed.Memory) is same = tt

-- a runner that is given none
none_given : (given : List (PathNames × List ℕ)) (stopped : Option Stop) → RunsThese [] given given stopped
none_given given None = sym (append-nil given)
none_given given (Some stop.NoStore) = sym (append-nil given)
none_given given (Some (stop.BadStore offset)) = sym (append-nil given)
none_given given (Some (stop.Sources fault)) = sym (append-nil given)
none_given given (Some (stop.UserFile path written found)) = sym (append-nil given)
none_given given (Some (stop.Bad name verdict)) = sym (append-nil given)
none_given given (Some stop.Run) = sym (append-nil given)
none_given given (Some stop.Full) = sym (append-nil given)
none_given given (Some (stop.Outside failed.Fault)) = sym (append-nil given)
none_given given (Some (stop.Outside (failed.TooLarge n))) = sym (append-nil given)
none_given given (Some (stop.Outside failed.Memory)) = inl (sym (append-nil given))

-- it ran none
pub before_ran : (ran : List RuleName) (given : List (List (PathNames × List ℕ))) (by : Stop) → ran ≡ [] → CrewRuns ran given given (Some by)
before_ran ran given by none = crew_none ran given given (Some by) none refl (λ list. none_given list (Some by))

-- ---- one that had none to run
pub none_ran : (ran : List RuleName) (given : List (List (PathNames × List ℕ))) → ran ≡ [] → CrewRuns ran given given None
none_ran ran given none = crew_none ran given given None none refl (λ list. none_given list None)

-- ---- one for which there was no memory before any rule was run
module _ (stopped : Option Stop) (is : stopped ≡ Some (stop.Outside failed.Memory)) where
  pub memory_stops : IfSome stopped StopsRunning
  memory_stops = subst (λ (s : Option Stop). IfSome s StopsRunning) (sym is) tt

  pub memory_counted : (jobs before now : ℕ) → now ≡ before → CrewCountedCause jobs before now stopped
  memory_counted jobs before now same = subst (CrewCountedCause jobs before now) (sym is) (record { any = tt; alone = λ one. same })

  pub memory_ran : (ran : List RuleName) (before now : List (List (PathNames × List ℕ))) → ran ≡ [] → now ≡ before → CrewRuns ran before now stopped
  memory_ran ran before now none same = crew_none ran before now stopped none same (λ list. none_given list stopped)

-- ---- the limits
-- whose rules were run, its files were within them
pub within_running : (w : World) (stopped : Option Stop) → IsWithin w None → IsWithin w stopped
within_running w None within = within
within_running w (Some stop.NoStore) within = tt
within_running w (Some (stop.BadStore offset)) within = tt
within_running w (Some (stop.Sources fault)) within = tt
within_running w (Some (stop.UserFile path written found)) within = tt
within_running w (Some (stop.Bad name verdict)) within = within
within_running w (Some stop.Run) within = within
within_running w (Some stop.Full) within = tt
within_running w (Some (stop.Outside why)) within = tt

-- of one that stopped before nothing is said
pub within_before : (w : World) (by : Stop) → StopsBefore by → IsWithin w (Some by)
within_before w stop.NoStore is = tt
within_before w (stop.BadStore offset) is = tt
within_before w (stop.Sources fault) is = tt
within_before w (stop.UserFile path written found) is = tt
within_before w (stop.Bad name verdict) is = absurd is
within_before w stop.Run is = absurd is
within_before w stop.Full is = tt
within_before w (stop.Outside why) is = tt
