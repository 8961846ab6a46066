-- The list of all that happened to a site in memory since it was made, and what it was at each moment. A moment is the length
-- of the list then. Own.
use Rattle.std.specs.Prelude.{ℕ, ◌+◌, ◌≤◌, List, [], ◌∷◌, length, take, map}
use Rattle.tup_path.specs.Name.{Names, Content}
use Rattle.tup_path.specs.Tree.{tree_of_files}
use Rattle.tup_site.specs.World.{World}
use Rattle.tup_site.specs.State.{State, IsImage, with_put, without_file, with_edit, with_write, with_cut, settled, synced, at_rest}
use Rattle.tup_site.specs.Choice.{known_after, chosen_world}
use Rattle.tup_site.specs.declared.change.Change.{Change}
use Rattle.tup_site.specs.declared.change.Change.TheVariants.{Put, Removed, Settled, Written, Cut, Synced, Edited, Crashed, Failed}

-- the contents of a list of files
abbrev pub contents_of : List (Names × Content) → List Content
contents_of files = map (λ (file : Names × Content). file.1) files

-- the state in which a site with these files is made: all of it is durable, and the store is empty
abbrev pub at_first : List (Names × Content) → State
at_first files = at_rest (contents_of files) (record { tree = tree_of_files files; store = [] })

-- the state after a change
abbrev pub after : State → Change → State
after state (Put path content) = with_put state path content
after state (Removed path) = without_file state path
after state Settled = settled state
after state (Written at bytes) = with_write state at bytes
after state (Cut len) = with_cut state len
after state Synced = synced state
after state (Edited path content) = with_edit state path content
after state (Crashed choice) = at_rest (known_after state.known choice.tree) (chosen_world state.world.tree choice)
after state Failed = state

-- the state after these changes, the first of them first
abbrev pub after_all : State → List Change → State
after_all state [] = state
after_all state (change ∷ changes) = after_all (after state change) changes

-- whether a change is that a call failed
abbrev pub failures_in : Change → ℕ
failures_in Failed = 1
failures_in change = 0

-- how many calls of a list have failed
abbrev pub failures : List Change → ℕ
failures [] = 0
failures (change ∷ changes) = failures_in change + failures changes

-- a crash at some moment since t may leave this world
pub record LeftSince (first : State) (changes : List Change) (t : ℕ) (w : World) : Type 0 where
  pub moment : ℕ
  pub since : t ≤ moment
  pub past : moment ≤ length changes
  pub image : IsImage (after_all first (take moment changes)) w
