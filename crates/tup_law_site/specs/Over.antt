-- A kept site over which a graph stands, and the graphs that may come after it there (own).
use Rattle.std.specs.Prelude.{◌≡◌, ◌⊎◌, ℕ, ◌≤◌, List, None, Some, All}
use Rattle.std.specs.FinMap as finite
use Rattle.std.specs.Option.{option_map}
use Rattle.tup_path.specs.Name.{Names, Content}
use Rattle.tup_site.specs.World.{World}
use Rattle.tup_site.specs.declared.site.Site.{Ghosts as Site}
use Rattle.tup_stamp.specs.declared.Stamp.{Stamp}
use Rattle.tup_stamp.specs.Stamp.{stamp}
use Rattle.tup_record.specs.declared.owned.OwnedState.TheVariants.{Unsure}
use Rattle.tup_runner.specs.Next.{Next}
use Rattle.tup_table.specs.Table.{entries_in}
use Rattle.tup_graph.specs.declared.owned.Owned.{Owned}
use Rattle.tup_graph.specs.Graph.{GraphState, is_owned}
use Rattle.tup_graph.specs.Kept.{HoldsItsOwn, IsKept, IsKeptSite}
use Rattle.tup_graph.specs.Opening.{IsGraphOf}
use Rattle.tup_graph.specs.Records.{Language}
use Rattle.tup_stored_graph.specs.Held.{Held, StandsFor}

-- what a crash now may leave
abbrev pub LeftNow : {S : Type 0} → Site S → S → World → Type 0
LeftNow site at w = site.left_since at (site.moment at) w

-- a site is kept, as it is and whenever a crash comes
abbrev pub IsKeptNow : {S : Type 0} → Site S → Next → Language → List Content → S → Type 0
IsKeptNow site next language known at = IsKeptSite next language known (site.world at) (LeftNow site at)

-- A graph stands for the store of a site, of which all is kept that a crash since a moment may leave: it has the sources of the
-- world that was there first, and holds its own as that one did. With the present world and moment: the site is kept.
pub record StandsOver {S : Type 0} (site : Site S) (next : Next) (language : Language) (known : List Content) (first : World) (since : ℕ) (graph : Held) (at : S) : Type 0 where
  pub began : since ≤ site.moment at
  pub stands : StandsFor site.world site.moment site.left_since graph at
  pub is_graph : IsGraphOf (entries_in graph.table) graph.nodes
  pub kept : IsKeptSite next language known first (site.left_since at since)

-- a path is owned, and it is open what stands there
pub record IsUnsure (g : GraphState) (path : Names) : Type 0 where
  pub owned : Owned
  pub here : finite.get g.owned path ≡ Some owned
  pub state : owned.state ≡ Unsure

-- none of some worlds has a file there
abbrev pub HasNoFile : (World → Type 0) → Names → Type 0
HasNoFile Left path = (w : World) → Left w → finite.get w.tree path ≡ None

-- files stand in each of some worlds, with these stamps
abbrev pub StandWith : (World → Type 0) → List (Names × Stamp) → Type 0
StandWith Left files = (w : World) → Left w → All (λ (file : Names × Stamp). option_map stamp (finite.get w.tree file.0) ≡ Some file.1) files

-- A graph may come after another where these worlds may be left: it is kept; a path is owned as it was, or no file stands there;
-- and an owned path is unsure, or is in the state that it was in, or holds its own
pub record MayFollow (next : Next) (language : Language) (known : List Content) (first : World) (Left : World → Type 0) (before after : GraphState) : Type 0 where
  pub kept : IsKept next language known after
  pub owned : (path : Names) → (is_owned after path ≡ is_owned before path) ⊎ HasNoFile Left path
  pub own : (path : Names) (owned : Owned) → finite.get after.owned path ≡ Some owned
      → (owned.state ≡ Unsure) ⊎ ((was : Owned) × (finite.get before.owned path ≡ Some was) × (owned.state ≡ was.state))
      ⊎ ((w : World) → Left w → HoldsItsOwn first w path owned)
