-- What becomes of a store that is empty or can't be read: it is told so exactly there, and nothing is done.
use Rattle.std.specs.Prelude.{◌≡◌, ◌⊎◌, ℕ, List, [], Option, None, Some, Ok, Err}
use Rattle.tup_site.specs.World.{World, TreeStays}
use Rattle.tup_site.specs.declared.fault.SiteFailed.TheVariants.{Fault, TooLarge, Memory}
use Rattle.tup_table.specs.Images.{OpenStep}
use Rattle.tup_graph.specs.declared.fault.GraphFault.TheVariants as graph
use Rattle.tup_stored_graph.specs.Held.{Held}
use Rattle.tup_stored_graph.specs.Opening.{OpensAs}
use Rattle.tup_ledger.specs.Begin.{IsRested}
use Rattle.tup_promise.specs.declared.log.Log.{Log}
use Rattle.tup_promise.specs.declared.stop.Stop.{Stop}
use Rattle.tup_promise.specs.declared.stop.Stop.TheVariants.{NoStore, BadStore, Sources, UserFile, Bad, Run, Full, Outside}

-- nothing was read, removed or run
pub record IsEmptyLog (log : Log) : Type 0 where
  pub read : log.read ≡ []
  pub removed : log.removed ≡ []
  pub ran : log.ran ≡ []
  pub ended : log.ended ≡ []
  pub steps : log.steps ≡ []

-- the bytes are no store, or one of which a record can't be read, from this byte on
abbrev pub IsDamaged : List ℕ → ℕ → Type 0
IsDamaged bytes offset = (left : List ℕ) × OpensAs bytes left (Err (graph.BadStore offset))

-- the bytes are a store, and each of its records can be read
abbrev pub IsReadable : List ℕ → Type 0
IsReadable bytes = (graph : Held) × (left : List ℕ) × OpensAs bytes left (Ok graph)

-- a store is what it was, or what opening it leaves
abbrev pub IsJustOpened : List ℕ → List ℕ → Type 0
IsJustOpened before after = (after ≡ before) ⊎ IsRested before after

-- nothing was done but to open the store
pub record DoesNothing (old new : World) (log : Log) : Type 0 where
  pub tree : TreeStays old new
  pub store : IsJustOpened old.store new.store
  pub empty : IsEmptyLog log

-- nor was more than that begun: where it failed, it may be anything that a crash of an opening leaves
pub record HasFailedToOpen (old new : World) (log : Log) : Type 0 where
  pub world : (new ≡ old) ⊎ OpenStep old new
  pub empty : IsEmptyLog log

-- how an update that stopped so went on from its store: one that is empty, or damaged, is told so and is left alone, and
-- every other one was read, unless the site failed meanwhile, or there was no memory
abbrev pub Unopened : World → World → Log → Option Stop → Type 0
Unopened old new log (Some NoStore) = (old.store ≡ []) × DoesNothing old new log
Unopened old new log (Some (BadStore offset)) = IsDamaged old.store offset × DoesNothing old new log
Unopened old new log (Some (Sources fault)) = IsReadable old.store
Unopened old new log (Some (UserFile path written found)) = IsReadable old.store
Unopened old new log (Some (Bad name verdict)) = IsReadable old.store
Unopened old new log (Some Run) = IsReadable old.store
Unopened old new log (Some Full) = IsReadable old.store
Unopened old new log (Some (Outside (TooLarge bytes))) = IsReadable old.store
Unopened old new log (Some (Outside Fault)) = IsReadable old.store ⊎ HasFailedToOpen old new log
Unopened old new log (Some (Outside Memory)) = IsReadable old.store ⊎ HasFailedToOpen old new log
Unopened old new log None = IsReadable old.store
