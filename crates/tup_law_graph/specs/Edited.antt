-- An edit of a file, in every world that may be there.
use Rattle.std.specs.Prelude.{◌≡◌, Option}
use Rattle.tup_path.specs.Name.{Names, Content}
use Rattle.tup_site.specs.Edit.{edited}
use Rattle.tup_site.specs.World.{World}
use Rattle.tup_graph.specs.Graph.{GraphState, is_owned}
use Rattle.tup_graph.specs.Kept.{IsGraphIn}

-- a world in which a path holds this, or nothing; its store is as it was
abbrev pub with_file : World → Names → Option Content → World
with_file world path content = record world { tree = edited world.tree path content }

-- a world that the edit makes of one of these
abbrev pub IsEditedFrom : (World → Type 0) → Names → Option Content → World → Type 0
IsEditedFrom Left path content world = (left : World) × Left left × (world ≡ with_file left path content)

-- a path is owned in each world that a crash may leave, or in none, as it is in the present
abbrev pub IsOwnedAlike : World → (World → Type 0) → Names → Type 0
IsOwnedAlike present Left path =
    (here there : GraphState) (left : World) → IsGraphIn present.store here → Left left → IsGraphIn left.store there → is_owned there path ≡ is_owned here path
