-- What a store lists as owned (own).
use Rattle.std.specs.Prelude.{◌≡◌, ◌⊎◌, ℕ, List}
use Rattle.tup_path.specs.Name.{Names}
use Rattle.tup_site.specs.World.{World, TreeStays}
use Rattle.tup_graph.specs.Graph.{GraphState}
use Rattle.tup_stored_graph.specs.Crash.{IsStoreOf}
use Rattle.tup_ledger.specs.Owned.{owned_in}
use Rattle.tup_ledger.specs.Sources.{Kept, HasSources}

-- the bytes are a store, and the graph there owns just these paths
pub record Lists (bytes : List ℕ) (paths : List Names) : Type 0 where
  pub graph : GraphState
  pub store : IsStoreOf graph bytes
  pub owned : paths ≡ owned_in graph

-- the bytes list just what others listed
abbrev pub StillLists : List ℕ → List ℕ → Type 0
StillLists before after = (paths : List Names) → (Lists before paths → Lists after paths) × (Lists after paths → Lists before paths)

-- the bytes list these paths or those
abbrev pub ListsEither : List Names → List Names → List ℕ → Type 0
ListsEither before after bytes = Lists bytes before ⊎ Lists bytes after

-- the tree stays, and is the present one
abbrev pub SettledStep : World → World → World → Type 0
SettledStep now v w = TreeStays v w × TreeStays now w

-- each world that a crash now may leave keeps these sources
abbrev pub IsSafe : {S : Type 0} → (S → ℕ) → (S → ℕ → World → Type 0) → S → Kept → Type 0
IsSafe moment left_since site kept = (w : World) → left_since site (moment site) w → HasSources kept w
