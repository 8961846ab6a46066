-- What a site in memory is after all that happened to it, and what a crash may then leave: exactly this. Own.
-- A removal is noted only where a file was there. Otherwise the path of a folder would count as removed, with files
-- below it that no call touched.
use Rattle.std.specs.Prelude.{◌≡◌, ℕ, ◌+◌, ◌<◌, ◌≤◌, Bool, false, not, ◌||◌, ◌&&◌, min, max, List, [], ◌∷◌, ◌++◌, Option, None, Some, length, take, drop, filter, get_or, nat_le, nat_lt}
use Rattle.std.specs.List.{list_any}
use Rattle.std.specs.FinMap as finite
use Rattle.tup_path.specs.Name.{Names, Content}
use Rattle.tup_path.specs.Order.{same_path}
use Rattle.tup_path.specs.Tree.{IsTree}
use Rattle.tup_site.specs.World.{World}
use Rattle.tup_site.specs.Known.{Joins}

-- the files, the store, the known contents; the paths that were put or removed since the last settle; of the store the ranges
-- (a place and a number of bytes) that were written since the last sync, the least of the length at that sync and the places
-- at which it was cut since then, and the greatest length since then
pub record State : Type 0 where
  pub world : World
  pub known : List Content
  pub loose : List Names
  pub written : List (ℕ × ℕ)
  pub floor : ℕ
  pub height : ℕ

-- whether a path is one of these
abbrev pub is_among : List Names → Names → Bool
is_among paths path = list_any (same_path path) paths

-- whether a place of the store lies in one of these ranges
abbrev pub is_written : List (ℕ × ℕ) → ℕ → Bool
is_written ranges place = list_any (λ (range : ℕ × ℕ). nat_le range.0 place && nat_lt place (range.0 + range.1)) ranges

-- What a crash may leave. In the tree each path that was put or removed since the last settle holds anything or is absent. In
-- the store each range that was written since the last sync holds any bytes; past the floor it holds any bytes and ends
-- anywhere up to the greatest length. All else is as it is.
pub record IsImage (state : State) (w : World) : Type 0 where
  pub tree : IsTree w.tree
  pub joins : Joins state.known w.tree
  pub settled : (path : Names) → is_among state.loose path ≡ false → finite.get w.tree path ≡ finite.get state.world.tree path
  pub no_shorter : state.floor ≤ length w.store
  pub no_longer : length w.store ≤ state.height
  pub synced : (place d : ℕ) → place < state.floor → is_written state.written place ≡ false → get_or w.store place d ≡ get_or state.world.store place d

-- whether one of two paths leads on from the other, or they are the same
abbrev pub is_in_line : Names → Names → Bool
is_in_line a b = same_path (take (length a) b) a || same_path (take (length b) a) b

-- the bytes with these written over them from a place on
abbrev pub overwritten : List ℕ → ℕ → List ℕ → List ℕ
overwritten store at bytes = take at store ++ (bytes ++ drop (at + length bytes) store)

-- the state after a file was set
abbrev pub with_put : State → Names → Content → State
with_put state path content = record state {
  world = record (state.world) { tree = finite.insert state.world.tree path content };
  known = content ∷ state.known;
  loose = path ∷ state.loose;
}

-- the state after a file was taken away
abbrev pub without_file : State → Names → State
without_file state path = record state {
  world = record (state.world) { tree = finite.remove state.world.tree path };
  loose = path ∷ state.loose;
}

-- the state after an edit, which is durable at once: also that nothing stands above and below a file that was set
abbrev pub with_edit : State → Names → Option Content → State
with_edit state path None = record state {
  world = record (state.world) { tree = finite.remove state.world.tree path };
  loose = filter (λ other. not (same_path other path)) state.loose;
}
with_edit state path (Some content) = record state {
  world = record (state.world) { tree = finite.insert state.world.tree path content };
  known = content ∷ state.known;
  loose = filter (λ other. not (is_in_line other path)) state.loose;
}

-- the state after bytes of the store were written
abbrev pub with_write : State → ℕ → List ℕ → State
with_write state at bytes = record state {
  world = record (state.world) { store = overwritten state.world.store at bytes };
  written = (at, length bytes) ∷ state.written;
  height = max state.height (at + length bytes);
}

-- the state after the store was cut
abbrev pub with_cut : State → ℕ → State
with_cut state len = record state {
  world = record (state.world) { store = take len state.world.store };
  floor = min state.floor len;
}

-- the state in which a world is durable whole
abbrev pub at_rest : List Content → World → State
at_rest contents w = record { world = w; known = contents; loose = []; written = []; floor = length w.store; height = length w.store }

-- the state after a settle
abbrev pub settled : State → State
settled state = record state { loose = [] }

-- the state after a sync
abbrev pub synced : State → State
synced state = record state { written = []; floor = length state.world.store; height = length state.world.store }
