-- What a commit answers, by what it writes and by whether it compacts first.
use Rattle.std.proofs.Common.{◌≡◌, ◌⊎◌, ℕ, Bool, true, false, List, length, Result, Ok, Err, refl, sym, ap, subst, ◌∙◌, inl, inr, ⊎_elim}
use Rattle.std.specs.Prelude.{if◌then◌else◌}
use Rattle.byteorder.specs.Endian.{big_bytes}
use Rattle.tup_path.specs.Gives.{GivesUnless}
use Rattle.tup_table.specs.Images.{compacted_store, written_at}
use Rattle.tup_table.specs.Table.{after_commit, after_compacting, after_writing, is_compacted_first, ready, ready_bytes, stale, CommitLeaves, CompactFails, CompactLeaves, IsOver, WriteLeaves}
use Rattle.tup_table.specs.declared.change.Change.{Change}
use Rattle.tup_table.specs.declared.fault.TableFault.{TableFault}
use Rattle.tup_table.specs.declared.fault.TableFault.TheVariants.{NotThere, BadStore, Site, Full, Memory}
use Rattle.tup_table.specs.declared.table.Table.{Table}
use Rattle.tup_table.proofs.Readying.{ready_plain, ready_first}

abbrev done : Result (Unit {0}) TableFault
done = Ok tt

abbrev refused : TableFault → Result (Unit {0}) TableFault
refused fault = Err fault

-- ---- nothing was written
pub due_refused : {S : Type 0} (changes : List Change) (table : Table) (site : S) (fault : TableFault) → (fault ≡ Memory) ⊎ ((fault ≡ Full) × IsOver table changes) → CommitLeaves changes table table site site (Err fault)
due_refused changes table site fault (inl memory) = subst (λ (f : TableFault). CommitLeaves changes table table site site (Err f)) (sym memory) (inr (refl, refl))
due_refused changes table site fault (inr full) = subst (λ (f : TableFault). CommitLeaves changes table table site site (Err f)) (sym full.0) (full.1, refl, refl)

pub due_fits : (table : Table) (changes : List Change) (fault : TableFault) → (fault ≡ Memory) ⊎ ((fault ≡ Full) × IsOver table changes) → GivesUnless (refused fault) Memory (Err Full)
due_fits table changes fault (inl memory) = inl (ap refused memory)
due_fits table changes fault (inr full) = inr (ap refused full.0)

-- ---- the store isn't compacted first
pub plain_leaves : {S : Type 0} (changes : List Change) (old new : Table) (before after : S) (result : Result (Unit {0}) TableFault) → after_writing old changes ≡ after_commit old changes → WriteLeaves changes old new before after result
    → CommitLeaves changes old new before after result
plain_leaves changes old new before after (Ok x) same leaves = leaves ∙ same
plain_leaves changes old new before after (Err NotThere) same leaves = absurd leaves
plain_leaves changes old new before after (Err (BadStore offset)) same leaves = absurd leaves
plain_leaves changes old new before after (Err Site) same leaves = leaves
plain_leaves changes old new before after (Err Full) same leaves = absurd leaves
plain_leaves changes old new before after (Err Memory) same leaves = leaves

pub plain_bytes : (table : Table) (changes : List Change) (bytes : List ℕ) → is_compacted_first table changes ≡ false → written_at table.gate changes bytes ≡ written_at (ready table changes).gate changes (ready_bytes table changes bytes)
plain_bytes table changes bytes plain =
    ap (λ (t : Table). written_at t.gate changes bytes) (sym (ready_plain table changes plain))
    ∙ ap (λ (b : Bool). written_at (ready table changes).gate changes (if b then compacted_store (big_bytes 8 (length bytes)) table.entries else bytes)) (sym plain)

-- ---- it is
pub compact_refused : {S : Type 0} (changes : List Change) (old new : Table) (before after : S) (fault : TableFault) → CompactFails old new before after fault → CommitLeaves changes old new before after (Err fault)
compact_refused changes old new before after fault fails =
    ⊎_elim (λ site. subst (λ (f : TableFault). CommitLeaves changes old new before after (Err f)) (sym site.0) site.1) (λ memory. subst (λ (f : TableFault). CommitLeaves changes old new before after (Err f)) (sym memory.0) memory.1) fails

pub write_refused : {S : Type 0} (changes : List Change) (old new compact later : Table) (before mid after : S) (fault : TableFault) → new ≡ stale old → WriteLeaves changes compact later mid after (Err fault) → CommitLeaves changes old new before after (Err fault)
write_refused changes old new compact later before mid after NotThere is leaves = absurd leaves
write_refused changes old new compact later before mid after (BadStore offset) is leaves = absurd leaves
write_refused changes old new compact later before mid after Site is leaves = is
write_refused changes old new compact later before mid after Full is leaves = absurd leaves
write_refused changes old new compact later before mid after Memory is leaves = inl is

pub first_bytes_after : (table : Table) (changes : List Change) (bytes : List ℕ) → is_compacted_first table changes ≡ true → (compact : Table) → compact ≡ after_compacting table → (mid : List ℕ) → mid ≡ compacted_store (big_bytes 8 (length bytes)) table.entries
    → written_at compact.gate changes mid ≡ written_at (ready table changes).gate changes (ready_bytes table changes bytes)
first_bytes_after table changes bytes first compact made mid is =
    ap (λ (t : Table). written_at t.gate changes mid) (made ∙ sym (ready_first table changes first))
    ∙ ap (written_at (ready table changes).gate changes) is
    ∙ ap (λ (b : Bool). written_at (ready table changes).gate changes (if b then compacted_store (big_bytes 8 (length bytes)) table.entries else bytes)) (sym first)

-- ---- compacting alone
pub compacting_refused : {S : Type 0} (old new : Table) (before after : S) (fault : TableFault) → CompactFails old new before after fault → CompactLeaves old new before after (Err fault)
compacting_refused old new before after fault fails =
    ⊎_elim (λ site. subst (λ (f : TableFault). CompactLeaves old new before after (Err f)) (sym site.0) site.1) (λ memory. subst (λ (f : TableFault). CompactLeaves old new before after (Err f)) (sym memory.0) memory.1) fails
