-- What is done to a site in memory between two runs: an edit of a file, or a crash. Own.
use Rattle.std.specs.Prelude.{◌≡◌, ⊤, [], ◌∷◌, ◌++◌, Option, None}
use Rattle.tup_path.specs.Name.{Names, Content}
use Rattle.tup_path.specs.Tree.{IsTree}
use Rattle.tup_site.specs.Choice.{IsChoice, chosen_world}
use Rattle.tup_site.specs.Edit.{edited}
use Rattle.tup_site.specs.Known.{IsKnown}
use Rattle.tup_site.specs.Memory.{tree_in, store_in, world_in, first_of, changes_of, state_of, known_with, calls_of, faults_of, fails_of, left_of, IsSameBeside, MayLeave}
use Rattle.tup_site.specs.State.{with_edit}
use Rattle.tup_site.specs.declared.change.Change.TheVariants.{Edited, Crashed}
use Rattle.tup_site.specs.declared.choice.Choice.{Choice}
use Rattle.tup_site.specs.declared.choice.Deed.{Deed}
use Rattle.tup_site.specs.declared.choice.Deed.TheVariants.{Edit, Crash}
use Rattle.tup_site.specs.declared.memory.MemSite.{MemSite}
use Rattle.tup_site.specs.declared.refused.MemRefused.{MemRefused}
use Rattle.tup_site.specs.declared.refused.MemRefused.TheVariants.{NotATree, SameStamp, NotAnImage, Memory}

-- a file was set, or taken away; it is durable at once
pub record IsEdited (path : Names) (content : Option Content) (old new : MemSite) : Type 0 where
  pub tree : tree_in new ≡ edited (tree_in old) path content
  pub store : store_in new ≡ store_in old
  pub noted : changes_of new ≡ changes_of old ++ Edited path content ∷ []
  pub beside : IsSameBeside old new

-- the machine stopped: what is there now is a world that a crash then might leave, and no call has to fail for it any more
pub record IsCrashed (choice : Choice) (old new : MemSite) : Type 0 where
  pub may : MayLeave old choice
  pub world : world_in new ≡ chosen_world (tree_in old) choice
  pub noted : changes_of new ≡ changes_of old ++ Crashed choice ∷ []
  pub left : left_of new ≡ None
  pub first : first_of new ≡ first_of old
  pub calls : calls_of new ≡ calls_of old
  pub faults : faults_of new ≡ faults_of old
  pub fails : fails_of new ≡ fails_of old

-- a deed was done
abbrev pub IsCarriedOut : Deed → MemSite → MemSite → Type 0
IsCarriedOut (Edit path content) old new = IsEdited path content old new
IsCarriedOut (Crash choice) old new = IsCrashed choice old new

-- nothing happened
pub record IsUntouched (old new : MemSite) : Type 0 where
  pub world : world_in new ≡ world_in old
  pub changes : changes_of new ≡ changes_of old
  pub beside : IsSameBeside old new

-- why an edit is refused
abbrev pub RefusesEdit : Names → Option Content → MemSite → MemRefused → Type 0
RefusesEdit path content site NotATree = ¬ IsTree (edited (tree_in site) path content)
RefusesEdit path content site SameStamp = IsTree (edited (tree_in site) path content) × ¬ IsKnown (with_edit (state_of site) path content).known
RefusesEdit path content site NotAnImage = ⊥
RefusesEdit path content site Memory = ⊤

-- why a crash is refused
abbrev pub RefusesCrash : Choice → MemSite → MemRefused → Type 0
RefusesCrash choice site NotATree = ¬ IsChoice (tree_in site) choice.tree
RefusesCrash choice site SameStamp = IsChoice (tree_in site) choice.tree × ¬ IsKnown (known_with site choice)
RefusesCrash choice site NotAnImage = IsChoice (tree_in site) choice.tree × IsKnown (known_with site choice) × ¬ MayLeave site choice
RefusesCrash choice site Memory = ⊤

-- why a deed is refused
abbrev pub Refuses : Deed → MemSite → MemRefused → Type 0
Refuses (Edit path content) site why = RefusesEdit path content site why
Refuses (Crash choice) site why = RefusesCrash choice site why
