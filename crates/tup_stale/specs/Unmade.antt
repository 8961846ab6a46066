-- Owned paths that no rule makes any more, and the files that stand there (own).
use Rattle.std.specs.Prelude.{◌≡◌, ◌≢◌, ℕ, Bool, List, All, take, filter, map, Option, None, Some, is_none, is_some, option_map, slice_get, Result, Ok, Err}
use Rattle.std.specs.FinMap as finite
use Rattle.tup_path.specs.Name.{Names}
use Rattle.tup_path.specs.Tree.{Tree}
use Rattle.tup_stamp.specs.declared.Stamp.{Stamp}
use Rattle.tup_stamp.specs.Stamp.{stamp}
use Rattle.tup_site.specs.Cause.{IsTooLarge}
use Rattle.tup_record.specs.declared.owned.OwnedState.{OwnedState}
use Rattle.tup_record.specs.declared.owned.OwnedState.TheVariants.{Never, Unsure, Written}
use Rattle.tup_graph.specs.declared.owned.Owned.{Owned}
use Rattle.tup_graph.specs.Graph.{GraphState}
use Rattle.tup_stale.specs.declared.fault.StaleFault.{StaleFault}
use Rattle.tup_stale.specs.declared.fault.StaleFault.TheVariants.{UserFile, Site, TooLarge, Full, Memory}

-- whether an owned path has lost its rule
abbrev pub lacks_maker : Names × Owned → Bool
lacks_maker entry = is_none entry.1.maker

-- the owned paths that no rule makes any more, in their order
abbrev pub unmade : GraphState → List Names
unmade g = map (λ (entry : Names × Owned). entry.0) (filter lacks_maker (finite.entries g.owned))

-- those of some paths at which a file stands
abbrev pub standing : Tree → List Names → List Names
standing tree paths = filter (λ path. is_some (finite.get tree path)) paths

-- the stamp of what was written at an owned path
abbrev pub written_in : OwnedState → Option Stamp
written_in Never = None
written_in Unsure = None
written_in (Written written) = Some written

-- A file with this stamp is the user's where nothing was written, or something else was. Where a write or a removal was
-- begun and not finished, whatever stands there is generated.
abbrev pub IsUsers : OwnedState → Stamp → Type 0
IsUsers Never found = Unit {0}
IsUsers Unsure found = ⊥
IsUsers (Written written) found = written ≢ found

-- at an owned path stands a file of the user's, with this stamp, in the place of what was written
pub record HasUsers (g : GraphState) (tree : Tree) (path : Names) (written : Option Stamp) (found : Stamp) : Type 0 where
  pub owned : Owned
  pub owns : finite.get g.owned path ≡ Some owned
  pub stands : option_map stamp (finite.get tree path) ≡ Some found
  pub users : IsUsers owned.state found
  pub wrote : written ≡ written_in owned.state

-- at a path stands no file of the user's
abbrev pub HasNoUsers : GraphState → Tree → Names → Type 0
HasNoUsers g tree path = (written : Option Stamp) (found : Stamp) → HasUsers g tree path written found → ⊥

-- the first of some paths at which a file of the user's stands
pub record IsFirstUsers (g : GraphState) (tree : Tree) (paths : List Names) (path : Names) (written : Option Stamp) (found : Stamp) : Type 0 where
  pub at : ℕ
  pub here : slice_get paths at ≡ Some path
  pub users : HasUsers g tree path written found
  pub first : All (HasNoUsers g tree) (take at paths)

-- the file at one of some paths is too large to be looked at, and before it stands none of the user's
pub record IsLargeBehind (g : GraphState) (tree : Tree) (paths : List Names) (bytes : ℕ) : Type 0 where
  pub at : ℕ
  pub path : Names
  pub here : slice_get paths at ≡ Some path
  pub large : IsTooLarge tree path bytes
  pub first : All (HasNoUsers g tree) (take at paths)

-- why a look at the file of one path is refused
abbrev pub IsRefused : GraphState → Tree → Names → StaleFault → Type 0
IsRefused g tree path (UserFile named written found) = (named ≡ path) × HasUsers g tree path written found
IsRefused g tree path (TooLarge bytes) = IsTooLarge tree path bytes
IsRefused g tree path Full = ⊥
IsRefused g tree path Site = Unit {0}
IsRefused g tree path Memory = Unit {0}

-- What a look at the files of some paths tells, by its answer: the user's own file exactly where there is one, and the
-- first of these; a file that is too large where none of the user's stands before it.
abbrev pub Sees : GraphState → Tree → List Names → Result (List Names) StaleFault → Type 0
Sees g tree paths (Ok files) = (files ≡ standing tree paths) × All (HasNoUsers g tree) paths
Sees g tree paths (Err (UserFile path written found)) = IsFirstUsers g tree paths path written found
Sees g tree paths (Err (TooLarge bytes)) = IsLargeBehind g tree paths bytes
Sees g tree paths (Err Full) = All (HasNoUsers g tree) paths
Sees g tree paths (Err Site) = Unit {0}
Sees g tree paths (Err Memory) = Unit {0}
