-- What the lists of what an update would do have to do with a kept site (own).
use Rattle.std.specs.Prelude.{◌≡◌, ◌↔◌, ℕ, true, [], Option}
use Rattle.std.specs.FinMap as finite
use Rattle.tup_path.specs.Name.{Names}
use Rattle.tup_site.specs.World.{World}
use Rattle.tup_graph.specs.Graph.{GraphState, is_flagged}
use Rattle.tup_graph.specs.Kept.{IsGraphIn}
use Rattle.tup_graph.specs.Reach.{stamp_in}
use Rattle.tup_ledger.specs.Sources.{sources_of}
use Rattle.tup_promise.specs.Did.{ReadsWhatIsDue, RemovesWhatIsUnmade}
use Rattle.tup_promise.specs.Kept.{AsksFor, HaveTupfiles}
use Rattle.tup_promise.specs.Needed.{IsDue}
use Rattle.tup_promise.specs.Unopened.{Unopened}
use Rattle.tup_promise.specs.declared.log.Log.{Log}
use Rattle.tup_promise.specs.declared.stop.Stop.{Stop}
use Rattle.tup_todo.specs.Listing.{due_rules}
use Rattle.tup_todo.specs.declared.todo.Todo.{Todo}

-- What an update would do that begins in a world, by what stands in the store of the world that is left. The same is to be done there.
pub record ListsWhatIsDue (old new : World) (todo : Todo) : Type 0 where
  -- the graph that stands there has the rules that the sources ask for, in both worlds
  pub graph : GraphState
  pub stored : IsGraphIn new.store graph
  pub rules : AsksFor old graph.rules
  pub still : AsksFor new graph.rules
  -- just those of them are flagged that are due in the one world, and just those that are due in the other
  pub due : (number : ℕ) → (is_flagged graph number ≡ true) ↔ IsDue old graph.rules number
  pub again : (number : ℕ) → (is_flagged graph number ≡ true) ↔ IsDue new graph.rules number
  -- no folder is left to be read: none is marked, each file was seen as it is, and each folder of which a reading is kept has a Tupfile
  pub created : graph.created ≡ finite.empty
  pub seen : (path : Names) → finite.get graph.seen path ≡ stamp_in new.tree path
  pub all_read : HaveTupfiles (sources_of graph new.tree) graph
  -- they are listed in the order of the rules
  pub runs : todo.runs ≡ due_rules graph
  -- just the folders are listed as read whose Tupfile had to be read, and just the files that an update has to remove, in both worlds
  pub read : ReadsWhatIsDue old todo.read
  pub removes : RemovesWhatIsUnmade old todo.removes
  pub goes : RemovesWhatIsUnmade new todo.removes

-- how it went on from its store, which may be empty or damaged; no rule was begun
abbrev pub GoesOnFromStore : World → World → Option Stop → Type 0
GoesOnFromStore old new stopped = (log : Log) × (log.ran ≡ []) × Unopened old new log stopped
