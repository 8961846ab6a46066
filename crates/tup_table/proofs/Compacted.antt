-- What compacting leaves of the store that a table stands for.
use Rattle.std.proofs.Common.{◌≡◌, ◌⊎◌, ℕ, ◌≤◌, List, ◌∷◌, ◌++◌, length, sym, ap, subst, ◌∙◌, inl, inr, ⊎_elim, length-append, arith}
use Rattle.tup_site.specs.Crash.{GoesOn}
use Rattle.tup_site.specs.World.{World, TreeStays}
use Rattle.tup_table.specs.Compact.{compacted, compact_area, live_size}
use Rattle.tup_table.specs.Entries.{Standing, entries_of}
use Rattle.tup_table.specs.Images.{CompactStep, compacted_store}
use Rattle.tup_table.specs.Reading.{opened_of}
use Rattle.tup_table.specs.Spelling.{blocks}
use Rattle.tup_table.specs.Store.{most_live}
use Rattle.tup_table.specs.Table.{entries_in, IsAtRest, Rests, StandsFor, table_of}
use Rattle.tup_table.specs.declared.change.Change.{Change}
use Rattle.tup_table.specs.declared.opened.Opened.{Opened}
use Rattle.tup_table.specs.declared.table.Table.{Table}
use Rattle.tup_table.proofs.Going.{IsEarlier}
use Rattle.tup_table.proofs.Settling.{same_world, stands_high}

pub at_rest_long : (commits : List (List Change)) (bytes : List ℕ) → IsAtRest commits bytes → 17 ≤ length bytes
at_rest_long commits bytes rests =
    omega (arith, ap length rests.whole, length-append (rests.head ++ blocks commits) (rests.gate ∷ rests.rest), length-append rests.head (blocks commits), rests.is_head.long)

module _ {S : Type 0} (world : S → World) (moment : S → ℕ) (left_since : S → ℕ → World → Type 0) (table : Table) (old : S) (stands : StandsFor world moment left_since table old) where
  pub old_long : 17 ≤ length (world old).store
  old_long = at_rest_long stands.commits (world old).store stands.rests.bytes

  pub area_so : (area : List ℕ) → area ≡ compact_area (entries_in table) → area ≡ compact_area (entries_of stands.commits)
  area_so area is = is ∙ ap compact_area stands.entries

  pub small_so : live_size (entries_in table) ≤ most_live → live_size (entries_of stands.commits) ≤ most_live
  small_so small = subst (λ (es : Standing). live_size es ≤ most_live) stands.entries small

  pub crash_so : (new : S) → GoesOn moment left_since old new (CompactStep (entries_of stands.commits)) → GoesOn moment left_since old new (CompactStep (entries_in table))
  crash_so new on = subst (λ (es : Standing). GoesOn moment left_since old new (CompactStep es)) (sym stands.entries) on

  pub bytes_so : (eight new : List ℕ) → new ≡ compacted_store eight (entries_of stands.commits) → new ≡ compacted_store eight (entries_in table)
  bytes_so eight new is = is ∙ ap (compacted_store eight) (sym stands.entries)

  pub stands_so : (opened : Opened) → opened ≡ opened_of (compacted (entries_in table)) → (new : S) → Rests world moment left_since (compacted (entries_of stands.commits)) new → StandsFor world moment left_since (table_of opened) new
  stands_so opened is new rests = stands_high world moment left_since stands.commits opened (is ∙ ap (λ (es : Standing). opened_of (compacted es)) stands.entries) new rests

  -- what the store has at the end, whatever the call answers
  pub compacting_now : (entries : Standing) (new : S) → TreeStays (world old) (world new) → IsEarlier moment left_since new → left_since new (moment new) (world new) → GoesOn moment left_since old new (CompactStep entries)
      → (world new ≡ world old) ⊎ CompactStep entries (world old) (world new)
  compacting_now entries new tree earlier present on =
      ⊎_elim (λ before. inl (same_world (world old) (world new) tree (stands.rests.durable (world new) before))) (λ from. inr (record { tree = tree; store = from.2.store }))
      (on.since (moment old) (world new) (omega arith) (earlier (moment old) (moment new) (world new) on.later present))
