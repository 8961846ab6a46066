-- What giving up paths does to a graph and to its world, by its answer (own).
use Rattle.std.specs.Prelude.{◌≡◌, ◌⊎◌, Bool, false, List, [], IsTrue, Result, Ok, Err}
use Rattle.tup_path.specs.Name.{Names}
use Rattle.tup_site.specs.World.{World}
use Rattle.tup_graph.specs.Transactions.{forget_edits, with_forgotten}
use Rattle.tup_graph.specs.declared.fault.GraphFault.{GraphFault}
use Rattle.tup_graph.specs.declared.fault.GraphFault.TheVariants.{Site, Full, Memory}
use Rattle.tup_stored_graph.specs.Held.{Held, is_fresh, stale}
use Rattle.tup_stored_graph.specs.Transaction.{after, to_write, IsFull}

-- a graph that owns these paths no longer
abbrev pub without : Held → List Names → Held
without graph paths = after graph (forget_edits graph.nodes paths) (with_forgotten graph.nodes paths)

-- The graph before and now, and where the site tells them, the worlds. Only the settling, and then the one commit, can fail.
module _ (tells : Bool) (paths : List Names) (old new : Held) (v w : World) where
  -- all is as it was
  abbrev pub NothingIsDone : Type 0
  NothingIsDone = (new ≡ old) × (IsTrue tells → w ≡ v)

  -- what each answer tells
  abbrev pub GivesUp : Result (Unit {0}) GraphFault → Type 0
  GivesUp (Ok done) = (new ≡ without old paths) × (to_write old (forget_edits old.nodes paths) ≡ [] → IsTrue tells → w ≡ v)
  GivesUp (Err Full) = IsFull old (forget_edits old.nodes paths) × NothingIsDone
  GivesUp (Err Site) = NothingIsDone ⊎ (new ≡ stale old)
  GivesUp (Err Memory) = NothingIsDone ⊎ (is_fresh new ≡ false)
  GivesUp (Err other) = ⊥

-- it isn't done where the store has no room; a failure of the site, or want of memory, may be told first
abbrev pub IsRefused : Result (Unit {0}) GraphFault → Type 0
IsRefused (Ok done) = ⊥
IsRefused (Err fault) = (fault ≡ Full) ⊎ (fault ≡ Site) ⊎ (fault ≡ Memory)
