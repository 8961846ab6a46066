-- A site in memory: what it holds, what happened to it, and which of its calls fail. Own.
use Rattle.std.specs.Prelude.{◌≡◌, ◌⊎◌, ℕ, Bool, false, ◌+◌, ◌-◌, ◌^◌, ◌<◌, ◌||◌, List, [], ◌∷◌, Option, None, Some, if◌then◌else◌, is_some, length, min, nat_eq, Result, Ok, Err, vec_len, vec_capacity}
use Rattle.std.specs.List.{list_any}
use Rattle.std.specs.FinMap as finite
use Rattle.tup_path.specs.Name.{Names, Content}
use Rattle.tup_path.specs.Tree.{Tree, tree_of_files}
use Rattle.tup_site.specs.World.{World}
use Rattle.tup_site.specs.Cause.{CountsFaults, NeverTooLarge}
use Rattle.tup_site.specs.State.{State}
use Rattle.tup_site.specs.Choice.{known_after, chosen_world}
use Rattle.tup_site.specs.declared.choice.Choice.{Choice}
use Rattle.tup_site.specs.History.{at_first, after_all, LeftSince}
use Rattle.tup_site.specs.declared.change.Change.{Change}
use Rattle.tup_site.specs.declared.change.Change.TheVariants.{Removed, Failed}
use Rattle.tup_site.specs.declared.fault.SiteFailed.{SiteFailed}
use Rattle.tup_site.specs.declared.fault.SiteFailed.TheVariants.{Fault, TooLarge, Memory}
use Rattle.tup_site.specs.declared.memory.MemSite.{MemSite}

-- the files
abbrev pub tree_in : MemSite → Tree
tree_in site = tree_of_files site.files.entries

-- the bytes of the store
abbrev pub store_in : MemSite → List ℕ
store_in site = site.store.items

-- the files and the store
abbrev pub world_in : MemSite → World
world_in site = record { tree = tree_in site; store = store_in site }

-- the files that the site was made with
abbrev pub first_of : MemSite → List (Names × Content)
first_of site = site.first

-- all that happened since then
abbrev pub changes_of : MemSite → List Change
changes_of site = site.changes.items

-- the state after all that happened
abbrev pub state_of : MemSite → State
state_of site = after_all (at_first (first_of site)) (changes_of site)

-- the contents that ever stood in the tree
abbrev pub known_in : MemSite → List Content
known_in site = (state_of site).known

-- how much happened so far
abbrev pub moment_of : MemSite → ℕ
moment_of site = length (changes_of site)

-- a crash at some moment since t may leave this
abbrev pub left_since : MemSite → ℕ → World → Type 0
left_since site t w = LeftSince (at_first (first_of site)) (changes_of site) t w

-- the known contents with those that a choice sets
abbrev pub known_with : MemSite → Choice → List Content
known_with site choice = known_after (known_in site) choice.tree

-- a crash now may leave this choice
abbrev pub MayLeave : MemSite → Choice → Type 0
MayLeave site choice = left_since site (moment_of site) (chosen_world (tree_in site) choice)

-- how many calls were made
abbrev pub calls_of : MemSite → ℕ
calls_of site = site.calls

-- how many of them failed
abbrev pub faults_of : MemSite → ℕ
faults_of site = site.faults

-- the numbers of the calls that fail
abbrev pub fails_of : MemSite → List ℕ
fails_of site = site.fails.items

-- how many more calls pass, where that was said
abbrev pub left_of : MemSite → Option ℕ
left_of site = site.left

-- one more, up to the last value of the type
abbrev pub one_more : ℕ → ℕ
one_more n = min (n + 1) (2 ^ 64 - 1)

-- whether no call may pass any more
abbrev pub is_used_up : Option ℕ → Bool
is_used_up None = false
is_used_up (Some left) = nat_eq left 0

-- one call less may pass
abbrev pub one_less : Option ℕ → Option ℕ
one_less None = None
one_less (Some left) = Some (left - 1)

-- whether the call that comes next fails: its number is listed, or no call may pass any more
abbrev pub fails_next : MemSite → Bool
fails_next site = list_any (λ n. nat_eq n (one_more (calls_of site))) (fails_of site) || is_used_up (left_of site)

-- a call was made: it was counted, it fails just where it has to, and then that was counted too
pub record IsCounted {T : Type 0} (old new : MemSite) (has_to_fail : Type 0) (result : Result T SiteFailed) : Type 0 where
  pub calls : calls_of new ≡ one_more (calls_of old)
  pub left : left_of new ≡ one_less (left_of old)
  pub fails : fails_of new ≡ fails_of old
  pub first : first_of new ≡ first_of old
  pub fault : result ≡ Err Fault → has_to_fail
  pub passes : has_to_fail → (result ≡ Err Fault) ⊎ (result ≡ Err Memory)
  pub cause : CountsFaults (faults_of old) (faults_of new) result

-- what a refused call adds to the list
abbrev pub added_by : SiteFailed → List Change
added_by Fault = Failed ∷ []
added_by (TooLarge n) = []
added_by Memory = []

-- what a call adds to the list: its changes where it succeeded
abbrev pub added : {T : Type 0} → Result T SiteFailed → List Change → List Change
added (Ok value) changes = changes
added (Err failed) changes = added_by failed

-- the removal of a file is a change only where the file is there
abbrev pub removal : Tree → Names → List Change
removal tree path = if is_some (finite.get tree path) then Removed path ∷ [] else []

-- the list has room for one change more
abbrev pub HasRoom : MemSite → Type 0
HasRoom site = vec_len site.changes < vec_capacity site.changes

-- the counts, the calls that fail and what it was made with are what they were
pub record IsSameBeside (old new : MemSite) : Type 0 where
  pub first : first_of new ≡ first_of old
  pub calls : calls_of new ≡ calls_of old
  pub faults : faults_of new ≡ faults_of old
  pub fails : fails_of new ≡ fails_of old
  pub left : left_of new ≡ left_of old

-- a call that began goes on: it fails just for this reason, and then that is counted
pub record FailsOnly {T : Type 0} (reason : Type 0) (old new : MemSite) (result : Result T SiteFailed) : Type 0 where
  pub first : first_of new ≡ first_of old
  pub calls : calls_of new ≡ calls_of old
  pub fails : fails_of new ≡ fails_of old
  pub left : left_of new ≡ left_of old
  pub fault : result ≡ Err Fault → reason
  pub passes : reason → (result ≡ Err Fault) ⊎ (result ≡ Err Memory)
  pub cause : CountsFaults (faults_of old) (faults_of new) result
  pub never_too_large : NeverTooLarge result
