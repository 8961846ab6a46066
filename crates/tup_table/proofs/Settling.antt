-- What a store is once an opening has settled it.
use Rattle.std.proofs.Common.{◌≡◌, ◌≢◌, ℕ, Bool, ◌==◌, List, [], ◌∷◌, ◌++◌, length, length-append, take, drop, sym, ap, subst, ◌∙◌, arith, ◌⊎◌, inl, inr, ⊎_elim, ◌≤◌}
use Rattle.std.specs.Prelude.{if◌then◌else◌}
use Rattle.std.proofs.lemmas.Bool.{ne_eqb}
use Rattle.std.proofs.lemmas.List.{get_or_append_left}
use Rattle.tup_site.specs.Crash.{GoesOn, PinsStore}
use Rattle.tup_site.specs.World.{World, TreeStays}
use Rattle.tup_table.specs.Compact.{compacted, compact_area}
use Rattle.tup_table.specs.Entries.{entries_of}
use Rattle.tup_table.specs.Images.{OpenStep, IsEndWritten, Leaves, closed_end, compacted_store, rested}
use Rattle.tup_table.specs.Reading.{opened_of}
use Rattle.tup_table.specs.Store.{first_bytes, blocks, switch_of, HasHead, IsLow, IsHigh}
use Rattle.tup_table.specs.Table.{Rests, StandsFor, table_of}
use Rattle.tup_table.specs.declared.change.Change.{Change}
use Rattle.tup_table.specs.declared.opened.Opened.{Opened}
use Rattle.tup_table.proofs.Compact.{compacted_again}
use Rattle.tup_table.proofs.Ends.{at_rest}
use Rattle.tup_table.proofs.Finish.{start_bytes}
use Rattle.tup_table.proofs.Going.{IsEarlier}
use Rattle.tup_table.proofs.Keys.{commits_ascending}

-- ---- by the switch
closed_way : (switch : ℕ) (open_bytes bytes : List ℕ) → switch ≢ 1 → (if switch == 1 then open_bytes else bytes) ≡ bytes
closed_way switch open_bytes bytes closed = ap (λ (t : Bool). if t then open_bytes else bytes) (ne_eqb switch 1 closed)

open_way : (switch : ℕ) (open_bytes bytes : List ℕ) → switch ≡ 1 → (if switch == 1 then open_bytes else bytes) ≡ open_bytes
open_way switch open_bytes bytes is = ap (λ (s : ℕ). if s == 1 then open_bytes else bytes) is

-- the switch of a store is that of its head
own_switch : (bytes head low : List ℕ) → HasHead bytes head low → switch_of bytes ≡ switch_of head
own_switch bytes head low parts = ap switch_of parts.whole ∙ get_or_append_left head low 0 8 (omega (arith, parts.is_head.long))

pub rested_low : (bytes : List ℕ) (commits : List (List Change)) (low : IsLow bytes commits) (opened : Opened) → rested bytes opened ≡ take opened.gate bytes ++ closed_end (drop opened.gate bytes)
rested_low bytes commits low opened =
    closed_way (switch_of bytes) (compacted_store (take 8 (drop 9 bytes)) opened.entries) (take opened.gate bytes ++ closed_end (drop opened.gate bytes))
    (λ e. low.closed (sym (own_switch bytes low.head low.low low.parts) ∙ e))

pub rested_high : (bytes : List ℕ) (commits : List (List Change)) (high : IsHigh bytes commits) (opened : Opened) → rested bytes opened ≡ compacted_store (take 8 (drop 9 bytes)) opened.entries
rested_high bytes commits high opened =
    open_way (switch_of bytes) (compacted_store (take 8 (drop 9 bytes)) opened.entries) (take opened.gate bytes ++ closed_end (drop opened.gate bytes))
    (own_switch bytes high.head high.low high.parts ∙ high.switched)

-- ---- where compacting was finished
pub high_long : (bytes : List ℕ) (commits : List (List Change)) → IsHigh bytes commits → 17 ≤ length bytes
high_long bytes commits high = omega (arith, ap length high.parts.whole, length-append high.head high.low, high.parts.is_head.long)

-- the bytes, by those of the store before
pub stored_high : (bytes : List ℕ) (commits : List (List Change)) (high : IsHigh bytes commits) (mid : List ℕ) (closed : IsHigh mid commits) → closed.head ≡ high.head → (opened : Opened) → opened ≡ opened_of (compacted (entries_of commits)) → (new : List ℕ)
    → new ≡ compacted_store (take 8 (drop 9 mid)) (entries_of commits) → new ≡ rested bytes opened
stored_high bytes commits high mid closed heads opened is new there =
    let start : take 8 (drop 9 mid) ≡ take 8 (drop 9 bytes) =
    start_bytes closed.head closed.low mid closed.parts.is_head closed.parts.whole ∙ ap (drop 9) heads ∙ sym (start_bytes high.head high.low bytes high.parts.is_head high.parts.whole) in
    let area : compact_area (entries_of commits) ≡ compact_area opened.entries =
    sym (ap (λ (cs : List (List Change)). blocks cs ++ 0 ∷ []) (compacted_again (entries_of commits) (commits_ascending commits))) ∙ ap (λ (o : Opened). compact_area o.entries) (sym is) in
    there ∙ ap (λ (t : List ℕ). first_bytes ++ 0 ∷ (t ++ compact_area (entries_of commits))) start
    ∙ ap (λ (t : List ℕ). first_bytes ++ 0 ∷ (take 8 (drop 9 bytes) ++ t)) area
    ∙ sym (rested_high bytes commits high opened)

-- ---- the table that stands for it
module _ {S : Type 0} (world : S → World) (moment : S → ℕ) (left_since : S → ℕ → World → Type 0) where
  pub stands_low : (bytes : List ℕ) (commits : List (List Change)) (low : IsLow bytes commits) (opened : Opened) → opened ≡ opened_of commits → (new : S) → (world new).store ≡ take opened.gate bytes ++ closed_end (drop opened.gate bytes)
      → PinsStore (left_since new (moment new)) (world new) → StandsFor world moment left_since (table_of opened) new
  stands_low bytes commits low opened is new closed pins =
      let gate = ap (λ (o : Opened). o.gate) is in
      record {
        commits = commits;
        rests = record { bytes = at_rest commits bytes low opened.gate gate (world new).store closed; durable = pins };
        entries = ap (λ (o : Opened). o.entries) is;
        gate = gate;
      }

  pub stands_high : (commits : List (List Change)) (opened : Opened) → opened ≡ opened_of (compacted (entries_of commits)) → (new : S) → Rests world moment left_since (compacted (entries_of commits)) new
      → StandsFor world moment left_since (table_of opened) new
  stands_high commits opened is new rests = record {
    commits = compacted (entries_of commits);
    rests = rests;
    entries = ap (λ (o : Opened). o.entries) is;
    gate = ap (λ (o : Opened). o.gate) is;
  }

-- ---- what the store has at the end, whatever the call answers
pub same_world : (v w : World) → TreeStays v w → w.store ≡ v.store → w ≡ v
same_world v w tree store = λ i. record { tree = tree i; store = store i }

same_step : (u v w : World) → v.store ≡ u.store → TreeStays u w → OpenStep v w → OpenStep u w
same_step u v w same tree step = record {
  tree = tree;
  entries = step.entries;
  before = subst (Leaves step.entries) same step.before;
  after = step.after;
  end = subst (λ (s : List ℕ). IsEndWritten s w.store) same step.end;
}

pub opening_now : {S : Type 0} (world : S → World) (moment : S → ℕ) (left_since : S → ℕ → World → Type 0) (old new : S) → PinsStore (left_since old (moment old)) (world old) → TreeStays (world old) (world new) → IsEarlier moment left_since new
    → left_since new (moment new) (world new) → GoesOn moment left_since old new OpenStep → (world new ≡ world old) ⊎ OpenStep (world old) (world new)
opening_now world moment left_since old new durable tree earlier present on =
    ⊎_elim (λ before. inl (same_world (world old) (world new) tree (durable (world new) before))) (λ from. inr (same_step (world old) from.0 (world new) (durable from.0 from.1) tree from.2))
    (on.since (moment old) (world new) (omega arith) (earlier (moment old) (moment new) (world new) on.later present))
