-- Why an update stops, by what every site and every runner counts, whatever it is: each is blamed only where its count rose, and
-- a limit only where it is passed.
use Rattle.std.specs.Prelude.{◌≡◌, ◌<◌, ⊤, ℕ, false, List, length, slice_get, Option, None, Some}
use Rattle.tup_path.specs.Count.{Rose}
use Rattle.tup_site.specs.Cause.{most_bytes}
use Rattle.tup_site.specs.World.{World}
use Rattle.tup_site.specs.declared.fault.SiteFailed.TheVariants.{Fault as SiteFault, TooLarge, Memory}
use Rattle.tup_scan.specs.Cause.{IsWithinLimits}
use Rattle.tup_clean.specs.Clean.{is_good}
use Rattle.tup_promise.specs.declared.fault.SourcesFault.{SourcesFault}
use Rattle.tup_promise.specs.declared.fault.SourcesFault.TheVariants.{TooManyFiles, TooManyCommands, TooManyLinks}
use Rattle.tup_promise.specs.declared.stop.Stop.{Stop}
use Rattle.tup_promise.specs.declared.stop.Stop.TheVariants.{NoStore, BadStore, Sources, UserFile, Bad, Run, Full, Outside}

-- a limit is passed only by what is more than it
abbrev pub PassesLimit : SourcesFault → Type 0
PassesLimit (TooManyFiles number) = 65536 < number
PassesLimit (TooManyCommands number) = 65536 < number
PassesLimit (TooManyLinks number) = 4194304 < number
PassesLimit fault = ⊤

-- by the site's count: it rises where the site is blamed, and nowhere else
abbrev pub HasCountedCause : ℕ → ℕ → Option Stop → Type 0
HasCountedCause before now (Some (Outside SiteFault)) = Rose before now
HasCountedCause before now (Some (Outside (TooLarge n))) = (now ≡ before) × (most_bytes < n)
HasCountedCause before now (Some (Outside Memory)) = now ≡ before
HasCountedCause before now (Some (Bad name verdict)) = (now ≡ before) × (is_good (Some verdict) ≡ false)
HasCountedCause before now (Some NoStore) = now ≡ before
HasCountedCause before now (Some (BadStore offset)) = now ≡ before
HasCountedCause before now (Some (Sources fault)) = (now ≡ before) × PassesLimit fault
HasCountedCause before now (Some (UserFile path written found)) = now ≡ before
HasCountedCause before now (Some Run) = now ≡ before
HasCountedCause before now (Some Full) = now ≡ before
HasCountedCause before now None = now ≡ before

-- by the runner's count: it rises where the runner is blamed, and nowhere else
abbrev pub HasRunCause : ℕ → ℕ → Option Stop → Type 0
HasRunCause before now (Some Run) = Rose before now
HasRunCause before now stopped = now ≡ before

-- What the site's count says whatever the number of runners. Once something has stopped an update, a command that still runs may
-- find that the site fails. So the count rises where the site is blamed, and it stays where nothing stopped the update, and where it
-- was stopped before its rules.
abbrev pub HasSharedCause : ℕ → ℕ → Option Stop → Type 0
HasSharedCause before now (Some (Outside SiteFault)) = Rose before now
HasSharedCause before now (Some (Outside (TooLarge n))) = most_bytes < n
HasSharedCause before now (Some (Outside Memory)) = ⊤
HasSharedCause before now (Some (Bad name verdict)) = is_good (Some verdict) ≡ false
HasSharedCause before now (Some NoStore) = now ≡ before
HasSharedCause before now (Some (BadStore offset)) = now ≡ before
HasSharedCause before now (Some (Sources fault)) = (now ≡ before) × PassesLimit fault
HasSharedCause before now (Some (UserFile path written found)) = now ≡ before
HasSharedCause before now (Some Run) = ⊤
HasSharedCause before now (Some Full) = ⊤
HasSharedCause before now None = now ≡ before

-- by the site's count, for an update of so many runners: for one, the count rises nowhere else
pub record CrewCountedCause (jobs before now : ℕ) (stopped : Option Stop) : Type 0 where
  pub any : HasSharedCause before now stopped
  pub alone : jobs ≡ 1 → HasCountedCause before now stopped

-- one of these counts rose
pub record OneRose (before now : List ℕ) : Type 0 where
  pub at : ℕ
  pub was : ℕ
  pub is : ℕ
  pub stood : slice_get before at ≡ Some was
  pub stands : slice_get now at ≡ Some is
  pub rose : Rose was is

-- By the counts of the runners of a crew: one rises where a runner is blamed, and all stay where nothing stopped the update, and
-- where it was stopped before its rules. Where something else stopped it, another command may still find that its runner fails, but
-- for a runner that is alone.
abbrev pub CrewRunCause : List ℕ → List ℕ → Option Stop → Type 0
CrewRunCause before now (Some Run) = OneRose before now
CrewRunCause before now (Some NoStore) = now ≡ before
CrewRunCause before now (Some (BadStore offset)) = now ≡ before
CrewRunCause before now (Some (Sources fault)) = now ≡ before
CrewRunCause before now (Some (UserFile path written found)) = now ≡ before
CrewRunCause before now (Some (Bad name verdict)) = length before ≡ 1 → now ≡ before
CrewRunCause before now (Some Full) = length before ≡ 1 → now ≡ before
CrewRunCause before now (Some (Outside failed)) = length before ≡ 1 → now ≡ before
CrewRunCause before now None = now ≡ before

-- an update that wasn't stopped before its rules found no more files than may be, and none too large
abbrev pub IsWithin : World → Option Stop → Type 0
IsWithin w None = IsWithinLimits w.tree
IsWithin w (Some (Bad name verdict)) = IsWithinLimits w.tree
IsWithin w (Some Run) = IsWithinLimits w.tree
IsWithin w (Some NoStore) = ⊤
IsWithin w (Some (BadStore offset)) = ⊤
IsWithin w (Some (Sources fault)) = ⊤
IsWithin w (Some (UserFile path written found)) = ⊤
IsWithin w (Some Full) = ⊤
IsWithin w (Some (Outside failed)) = ⊤
