-- What the opening of a store tells an update.
use Rattle.std.proofs.Common.{◌≡◌, ◌⊎◌, inl, inr, Some, Ok, Err}
use Rattle.tup_site.specs.World.{World, TreeStays}
use Rattle.tup_site.specs.declared.fault.SiteFailed.TheVariants as failed
use Rattle.tup_table.specs.Images.{OpenStep}
use Rattle.tup_graph.specs.declared.fault.GraphFault.{GraphFault}
use Rattle.tup_graph.specs.declared.fault.GraphFault.TheVariants as graph
use Rattle.tup_stored_graph.specs.Held.{Held}
use Rattle.tup_stored_graph.specs.Opening.{OpensAs}
use Rattle.tup_promise.specs.Stopped.{stop_of_graph}
use Rattle.tup_promise.specs.Unopened.{IsEmptyLog, IsJustOpened, IsReadable, Unopened}
use Rattle.tup_promise.specs.declared.log.Log.{Log}
use Rattle.tup_promise.specs.declared.stop.Stop.{Stop}
use Rattle.tup_promise.specs.declared.stop.Stop.TheVariants as stop
use Rattle.tup_phases.specs.Prepared.{StopsOpened}

module _ (old new : World) (tree : TreeStays old new) (keeps : (new ≡ old) ⊎ OpenStep old new) (log : Log) (empty : IsEmptyLog log) where
  pub refused : (fault : GraphFault) → OpensAs old.store new.store (Err fault) → Unopened old new log (Some (stop_of_graph fault))
  refused graph.NotThere opens = (opens.0, record { tree = tree; store = inl opens.1; empty = empty })
  refused (graph.BadStore offset) opens = ((new.store, opens), record { tree = tree; store = closes opens; empty = empty })
    where
      closes : OpensAs old.store new.store (Err (graph.BadStore offset)) → IsJustOpened old.store new.store
      closes (inl (reads, same)) = inl same
      closes (inr broken) = inr (broken.opened, broken.reads, broken.closes)
  refused graph.Site opens = inr (record { world = keeps; empty = empty })
  refused graph.Full opens = absurd opens
  refused graph.Memory opens = inr (record { world = keeps; empty = empty })

pub readable : (old new : World) (held : Held) → OpensAs old.store new.store (Ok held) → IsReadable old.store
readable old new held opens = (held, new.store, opens)

-- a later stop of an update whose store was read
pub stopped_later : (old new : World) (log : Log) (by : Stop) → IsReadable old.store → StopsOpened by → Unopened old new log (Some by)
stopped_later old new log stop.NoStore reads is = absurd is
stopped_later old new log (stop.BadStore offset) reads is = absurd is
stopped_later old new log (stop.Sources fault) reads is = reads
stopped_later old new log (stop.UserFile path written found) reads is = reads
stopped_later old new log (stop.Bad name verdict) reads is = absurd is
stopped_later old new log stop.Run reads is = absurd is
stopped_later old new log stop.Full reads is = reads
stopped_later old new log (stop.Outside failed.Fault) reads is = inl reads
stopped_later old new log (stop.Outside (failed.TooLarge bytes)) reads is = reads
stopped_later old new log (stop.Outside failed.Memory) reads is = inl reads
