-- A commit leaves the same keys and values whether the store is compacted first or not.
use Rattle.std.proofs.Common.{◌≡◌, ◌↔◌, ◌⊎◌, ℕ, zero, suc, ◌+◌, ◌<◌, ◌≤◌, Bool, true, false, List, length, refl, sym, ap, subst, ◌∙◌, inl, inr, ⊎_elim, arith}
use Rattle.std.specs.Prelude.{if◌then◌else◌, ltb, leb, ◌&&◌, ◌*◌}
use Rattle.std.proofs.lemmas.Bool.{leb-true, ltb-true, le-leb, lt-ltb, and_parts}
use Rattle.std.proofs.lemmas.Bool.Decides.{leb_tells}
use Rattle.tup_table.specs.Store.{most_live, CommitFits}
use Rattle.tup_site.specs.Crash.{GoesOn}
use Rattle.tup_site.specs.World.{World}
use Rattle.tup_table.specs.Appending.{appending}
use Rattle.tup_table.specs.Compact.{HasSameValues, size_of, live_by, live_size}
use Rattle.tup_table.specs.Entries.{Standing, IsAscending, committed}
use Rattle.tup_table.specs.Images.{Keeps, CommitStep, CompactStep}
use Rattle.tup_table.specs.Table.{entries_in, after_commit, after_compacting, after_writing, is_compacted_before, is_compacted_first, ready, CompactsBefore, IsDue, IsOver}
use Rattle.tup_table.specs.declared.change.Change.{Change}
use Rattle.tup_table.specs.declared.due.Due.{Due}
use Rattle.tup_table.specs.declared.fault.TableFault.{TableFault}
use Rattle.tup_table.specs.declared.fault.TableFault.TheVariants.{Full, Memory}
use Rattle.tup_table.specs.declared.table.Table.{Table}
use Rattle.tup_table.proofs.Compact.{compacted_values, committed_values}
use Rattle.tup_table.proofs.Going.{IsEarlier, as_step, then_on}
use Rattle.tup_table.proofs.Sizes.{size_same}
use Rattle.tup_table.proofs.Snapshots.{last_gate}

ready_values : (table : Table) (changes : List Change) → IsAscending (entries_in table) → HasSameValues (entries_in table) (entries_in (ready table changes))
ready_values table changes up =
    elim (is_compacted_first table changes) as (λ first. HasSameValues (entries_in table) (entries_in (if first then after_compacting table else table))) [
      | true ↦ sym (compacted_values (entries_in table) up)
      | false ↦ refl
    ]

pub after_values : (origin : ℕ) (table : Table) (changes : List Change) → IsAscending (entries_in table) → HasSameValues (committed origin (entries_in table) changes) (entries_in (after_commit table changes))
after_values origin table changes up =
    committed_values origin (ready table changes).gate (entries_in table) (entries_in (ready table changes)) changes (ready_values table changes up)

-- ---- the table to which a commit is made
pub ready_first : (table : Table) (changes : List Change) → is_compacted_first table changes ≡ true → ready table changes ≡ after_compacting table
ready_first table changes first = ap (λ (b : Bool). if b then after_compacting table else table) first

pub ready_plain : (table : Table) (changes : List Change) → is_compacted_first table changes ≡ false → ready table changes ≡ table
ready_plain table changes plain = ap (λ (b : Bool). if b then after_compacting table else table) plain

-- ---- the steps of a commit that compacts first
keeps_moves : (one other : Standing) (bytes : List ℕ) → HasSameValues one other → Keeps one bytes → Keeps other bytes
keeps_moves one other bytes same keeps = (keeps.0, keeps.1, keeps.2 ∙ same)

compact_commits : (before later : Standing) (v w : World) → CompactStep before v w → CommitStep before later v w
compact_commits before later v w step = record { tree = step.tree; store = inl step.store }

commit_moves : (one other later : Standing) → HasSameValues one other → (v w : World) → CommitStep one later v w → CommitStep other later v w
commit_moves one other later same v w step = record { tree = step.tree; store = ⊎_elim (λ keeps. inl (keeps_moves one other w.store same keeps)) inr step.store }

commit_joined : (before later : Standing) (u v w : World) → CommitStep before later u v → CommitStep before later v w → CommitStep before later u w
commit_joined before later u v w one two = record { tree = two.tree ∙ one.tree; store = two.store }

module _ {S : Type 0} (moment : S → ℕ) (left_since : S → ℕ → World → Type 0) (table : Table) (changes : List Change) (up : IsAscending (entries_in table)) (first : is_compacted_first table changes ≡ true) where
  abbrev later : Standing
  later = entries_in (after_commit table changes)

  -- where compacting fails
  pub compact_goes : (old mid : S) → GoesOn moment left_since old mid (CompactStep (entries_in table)) → GoesOn moment left_since old mid (CommitStep (entries_in table) later)
  compact_goes old mid = as_step moment left_since old mid (CompactStep (entries_in table)) (CommitStep (entries_in table) later) (λ v w left step. compact_commits (entries_in table) later v w step)

  -- behind it
  pub commit_goes_first : (old mid new : S) (compact : Table) → compact ≡ after_compacting table → IsEarlier moment left_since mid → GoesOn moment left_since old mid (CompactStep (entries_in table))
      → GoesOn moment left_since mid new (CommitStep (entries_in compact) (entries_in (after_writing compact changes))) → GoesOn moment left_since old new (CommitStep (entries_in table) later)
  commit_goes_first old mid new compact is earlier one two =
      let made : compact ≡ ready table changes = is ∙ sym (ready_first table changes first) in
      let here = subst (λ (t : Table). GoesOn moment left_since mid new (CommitStep (entries_in t) (entries_in (after_writing t changes)))) made two in
      let same : HasSameValues (entries_in (ready table changes)) (entries_in table) = sym (ready_values table changes up) in
      then_on moment left_since old mid new (CommitStep (entries_in table) later) earlier (commit_joined (entries_in table) later) (compact_goes old mid one)
      (as_step moment left_since mid new (CommitStep (entries_in (ready table changes)) later) (CommitStep (entries_in table) later) (λ v w left step. commit_moves (entries_in (ready table changes)) (entries_in table) later same v w step) here)

-- a commit that doesn't compact
pub commit_goes_plain : {S : Type 0} (moment : S → ℕ) (left_since : S → ℕ → World → Type 0) (table : Table) (changes : List Change) → is_compacted_first table changes ≡ false → (old new : S)
    → GoesOn moment left_since old new (CommitStep (entries_in table) (entries_in (after_writing table changes))) → GoesOn moment left_since old new (CommitStep (entries_in table) (entries_in (after_commit table changes)))
commit_goes_plain moment left_since table changes plain old new on =
    subst (λ (t : Table). GoesOn moment left_since old new (CommitStep (entries_in table) (entries_in (after_writing t changes)))) (sym (ready_plain table changes plain)) on

-- how many bytes the entries take after it, wherever they were put
pub size_ready : (table : Table) (changes : List Change) (size : ℕ) → IsAscending (entries_in table) → ((origin : ℕ) → size ≡ size_of (committed origin (entries_in table) changes)) → size ≡ size_of (entries_in (after_commit table changes))
size_ready table changes size up is = is 0 ∙ size_same (committed 0 (entries_in table) changes) (entries_in (after_commit table changes)) (after_values 0 table changes up)

-- the gate before it
pub gate_ready : (table : Table) (changes : List Change) → is_compacted_first table changes ≡ true → (ready table changes).gate + 1 ≡ live_size (entries_in table)
gate_ready table changes first = ap (λ (t : Table). t.gate + 1) (ready_first table changes first) ∙ last_gate (entries_in table)

pub gate_by : (table : Table) (changes : List Change) (first : Bool) (gate : ℕ) → first ≡ is_compacted_first table changes → (first ≡ true → gate + 1 ≡ live_size (entries_in table)) → (first ≡ false → gate ≡ table.gate) → gate ≡ (ready table changes).gate
gate_by table changes true gate is compacts plain = let at = gate_ready table changes (sym is) in omega (arith, at, compacts refl)
gate_by table changes false gate is compacts plain = plain refl ∙ ap (λ (t : Table). t.gate) (sym (ready_plain table changes (sym is)))

-- a store that is compacted first isn't too large for it
pub first_small : (table : Table) (changes : List Change) → is_compacted_first table changes ≡ true → live_size (entries_in table) ≤ most_live
first_small table changes first =
    leb-true (live_size table.entries) most_live
    (and_parts (leb (live_size table.entries) most_live) (ltb (2 * live_size table.entries) (table.gate + 1) && ltb 536870912 (table.gate + (1 + length (appending changes)))) first).0

-- whether it is, by a test
pub compacts_by : (table : Table) (len : ℕ) (test : Bool) → (test ≡ true) ↔ CompactsBefore table len → test ≡ is_compacted_before table len
compacts_by table len true tells =
    let so = tells.0 refl in
    let small = le-leb (live_size table.entries) most_live so.0 in
    let loose = lt-ltb (2 * live_size table.entries) (table.gate + 1) so.1 in
    let long = lt-ltb 536870912 (table.gate + (1 + len)) so.2 in
    sym (λ i. small i && (loose i && long i))
compacts_by table len false tells =
    (elim (is_compacted_before table len) as (λ t. is_compacted_before table len ≡ t → false ≡ t) [
      | true ↦ λ t. (let small = and_parts (leb (live_size table.entries) most_live) (ltb (2 * live_size table.entries) (table.gate + 1) && ltb 536870912 (table.gate + (1 + len))) t in
          let more = and_parts (ltb (2 * live_size table.entries) (table.gate + 1)) (ltb 536870912 (table.gate + (1 + len))) small.1 in
          tells.1 (leb-true (live_size table.entries) most_live small.0, ltb-true (2 * live_size table.entries) (table.gate + 1) more.0, ltb-true 536870912 (table.gate + (1 + len)) more.1))
      | false ↦ λ t. refl
    ]) refl

-- a compacted store has a gate
pub live_some : (es : Standing) → 1 ≤ live_size es
live_some es = by (size_of es)
  where
    by : (size : ℕ) → 1 ≤ live_by size
    by zero = omega arith
    by (suc more) = omega arith

-- what a commit has room for isn't over
pub not_over : (table : Table) (changes : List Change) (due : Due) → IsDue table changes due → ¬ IsOver table changes
not_over table changes due is (inl many) = omega (arith, many, is.live)
not_over table changes due is (inr long) = omega (arith, long, is.room)

-- the table that a commit is made to, by whether the store is compacted first
module _ (table : Table) (changes : List Change) (due : Due) (is : IsDue table changes due) where
  pub plain_after : due.first ≡ false → after_writing table changes ≡ after_commit table changes
  plain_after plain = ap (λ (t : Table). after_writing t changes) (sym (ready_plain table changes (sym is.first ∙ plain)))

  pub plain_room : due.first ≡ false → table.gate + (1 + length (appending changes)) ≤ 2147483648
  plain_room plain = subst (λ (t : Table). t.gate + (1 + length (appending changes)) ≤ 2147483648) (ready_plain table changes (sym is.first ∙ plain)) is.room

  pub plain_size : due.first ≡ false → due.size ≡ size_of (committed table.gate (entries_in table) changes)
  plain_size plain = is.size ∙ ap (λ (t : Table). size_of t.entries) (sym (plain_after plain))

  pub first_after : due.first ≡ true → (compact : Table) → compact ≡ after_compacting table → after_writing compact changes ≡ after_commit table changes
  first_after first compact made = ap (λ (t : Table). after_writing t changes) (made ∙ sym (ready_first table changes (sym is.first ∙ first)))

  pub first_room : due.first ≡ true → (compact : Table) → compact ≡ after_compacting table → compact.gate + (1 + length (appending changes)) ≤ 2147483648
  first_room first compact made = subst (λ (t : Table). t.gate + (1 + length (appending changes)) ≤ 2147483648) (ready_first table changes (sym is.first ∙ first) ∙ sym made) is.room

  pub first_size : due.first ≡ true → (compact : Table) → compact ≡ after_compacting table → due.size ≡ size_of (committed compact.gate (entries_in compact) changes)
  first_size first compact made = is.size ∙ ap (λ (t : Table). size_of t.entries) (sym (first_after first compact made))

-- ---- why there is no room
pub appended_over : (table : Table) (changes : List Change) (fault : TableFault) → (fault ≡ Memory) ⊎ ((fault ≡ Full) × (2147483648 < 0 + (1 + length (appending changes)))) → (fault ≡ Memory) ⊎ ((fault ≡ Full) × IsOver table changes)
appended_over table changes fault (inl memory) = inl memory
appended_over table changes fault (inr full) = inr (full.0, inr (omega (arith, full.1)))

module _ (table : Table) (changes : List Change) (size gate : ℕ) (bytes : List ℕ) (takes : size ≡ size_of (entries_in (after_commit table changes))) (at : gate ≡ (ready table changes).gate) (is : bytes ≡ appending changes) where
  long : length bytes ≡ length (appending changes)
  long = ap length is

  pub full_over : ¬ ((live_by size ≤ most_live) × (gate + (1 + length bytes) ≤ 2147483648)) → IsOver table changes
  full_over none =
      ⊎_elim
      (λ small. ⊎_elim (λ room. absurd (none (small.1, room.1))) (λ many. inr (let over = many.1 in omega (arith, over, at, long))) (leb_tells (gate + (1 + length bytes)) 2147483648))
      (λ many. inl (subst (λ (n : ℕ). most_live < live_by n) takes many.1)) (leb_tells (live_by size) most_live)

  pub due_there : CommitFits changes → size ≤ 4611686018427387904 → (first : Bool) → first ≡ is_compacted_first table changes → (live_by size ≤ most_live) × (gate + (1 + length bytes) ≤ 2147483648) → IsDue table changes (record { bytes = bytes; size = size; first = first })
  due_there fits small first compacts room = record {
    fits = fits;
    bytes = is;
    size = takes;
    small = small;
    first = compacts;
    live = subst (λ (n : ℕ). live_by n ≤ most_live) takes room.0;
    room = let has = room.1 in omega (arith, has, at, long);
  }
