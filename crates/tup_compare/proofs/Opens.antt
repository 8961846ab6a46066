-- How the store was opened: what its refusal becomes, what was written, and what a crash may leave of it.
use Rattle.std.proofs.Common.{◌≡◌, ◌≢◌, ◌⊎◌, ℕ, List, Option, None, Some, Result, Err, ⊎_elim, inl, inr, ap}
use Rattle.tup_site.specs.Crash.{GoesOn}
use Rattle.tup_site.specs.World.{World}
use Rattle.tup_table.specs.Images.{IsEndWritten, OpenStep}
use Rattle.tup_table.proofs.Going.{as_step}
use Rattle.tup_graph.specs.declared.fault.GraphFault.{GraphFault}
use Rattle.tup_graph.specs.declared.fault.GraphFault.TheVariants as graph
use Rattle.tup_stored_graph.specs.Cause.{CountsFaults}
use Rattle.tup_stored_graph.specs.Opening.{OpensAs}
use Rattle.tup_promise.specs.Cause.{HasCountedCause}
use Rattle.tup_promise.specs.Stopped.{stop_of_graph}
use Rattle.tup_promise.specs.declared.stop.Stop.{Stop}
use Rattle.tup_promise.specs.declared.stop.Stop.TheVariants.{NoStore, BadStore, Sources, UserFile, Bad, Run, Full, Outside}
use Rattle.tup_compare.specs.Holding.{HoldsOn}
use Rattle.tup_promise.specs.Unopened.{IsJustOpened}
use Rattle.tup_compare.specs.Opened.{IsUnopened, JustOpens, StopsOpening}
use Rattle.tup_compare.proofs.Held.{opened_holds}
use Rattle.tup_compare.proofs.Written.{rested_written}

-- ---- a refusal, and what the site counted
pub graph_counts : {T : Type 0} (before now : ℕ) (result : Result T GraphFault) (fault : GraphFault) → result ≡ Err fault → CountsFaults before now result → HasCountedCause before now (Some (stop_of_graph fault))
graph_counts before now result graph.NotThere is counts = counts.steady (λ e. cc (is, e))
graph_counts before now result (graph.BadStore offset) is counts = counts.steady (λ e. cc (is, e))
graph_counts before now result graph.Site is counts = counts.fault is
graph_counts before now result graph.Full is counts = counts.steady (λ e. cc (is, e))
graph_counts before now result graph.Memory is counts = counts.steady (λ e. cc (is, e))

-- ---- how the store was opened

-- whatever it answered
pub kept_opens : (v w : World) → (w ≡ v) ⊎ OpenStep v w → (w.store ≡ v.store) ⊎ IsEndWritten v.store w.store
kept_opens v w (inl same) = inl (ap (λ (u : World). u.store) same)
kept_opens v w (inr step) = inr step.end

pub opens_so : (before after : List ℕ) (fault : GraphFault) → (after ≡ before) ⊎ IsEndWritten before after → OpensAs before after (Err fault) → JustOpens before after (Some (stop_of_graph fault))
opens_so before after graph.NotThere kept opens = inl opens.1
opens_so before after (graph.BadStore offset) kept opens = ⊎_elim (λ damaged. inl damaged.1) (λ broken. inr (broken.opened, broken.reads, broken.closes)) opens
opens_so before after graph.Site kept opens = kept
opens_so before after graph.Full kept opens = absurd opens
opens_so before after graph.Memory kept opens = kept

pub opened_then : (before after : List ℕ) (stopped : Option Stop) → IsJustOpened before after → JustOpens before after stopped
opened_then before after None opens = opens
opened_then before after (Some NoStore) opens = opens
opened_then before after (Some (BadStore offset)) opens = opens
opened_then before after (Some (Sources fault)) opens = opens
opened_then before after (Some (UserFile path written found)) opens = opens
opened_then before after (Some (Bad name verdict)) opens = opens
opened_then before after (Some Run) opens = opens
opened_then before after (Some Full) opens = opens
opened_then before after (Some (Outside failed)) opens = ⊎_elim inl (λ rested. inr (rested_written before after rested)) opens

-- ---- an opening

pub opening_stops : {T : Type 0} (result : Result T GraphFault) (fault : GraphFault) → result ≡ Err fault → result ≢ Err graph.Full → StopsOpening (stop_of_graph fault)
opening_stops result graph.NotThere is full = tt
opening_stops result (graph.BadStore offset) is full = tt
opening_stops result graph.Site is full = tt
opening_stops result graph.Full is full = absurd (full is)
opening_stops result graph.Memory is full = tt

pub unopened : (old new : World) (fault : GraphFault) → OpensAs old.store new.store (Err fault) → IsUnopened old (stop_of_graph fault)
unopened old new graph.NotThere opens = opens.0
unopened old new (graph.BadStore offset) opens = (new.store, opens)
unopened old new graph.Site opens = tt
unopened old new graph.Full opens = tt
unopened old new graph.Memory opens = tt

-- ---- what an opening adds to what a crash may leave
module _ {S : Type 0} (moment : S → ℕ) (left_since : S → ℕ → World → Type 0) where
  pub opening_on : (old new : S) → GoesOn moment left_since old new OpenStep → GoesOn moment left_since old new HoldsOn
  opening_on old new on = as_step moment left_since old new OpenStep HoldsOn (λ v w left step. opened_holds v w step) on
