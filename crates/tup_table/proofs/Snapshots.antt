-- What a compact area reads as.
use Rattle.std.proofs.Common.{◌≡◌, ℕ, zero, suc, ◌+◌, ◌<◌, ◌≤◌, List, [], ◌∷◌, ◌++◌, Ok, Err, refl, sym, ap, subst, ◌∙◌, ◌⊎◌, inl, inr, arith, append_assoc, append-nil, length-append, length}
use Rattle.std.proofs.lemmas.List.Concat.{flat_map-cons}
use Rattle.byteorder.specs.Endian.{big_bytes}
use Rattle.tup_table.specs.Compact.{EntriesFit, compacted, compact_area, live_by, live_size, put_of, puts, size_of}
use Rattle.tup_table.specs.Entries.{Standing}
use Rattle.tup_table.specs.Reading.{opened_of, AreaReadsAs}
use Rattle.tup_table.specs.Spelling.{blocks, change_spelling, payload}
use Rattle.tup_table.specs.Store.{header, most_live, IsArea}
use Rattle.tup_table.specs.declared.entry.Entry.{Entry}
use Rattle.tup_table.specs.declared.fault.TableFault.{TableFault}
use Rattle.tup_table.specs.declared.fault.TableFault.TheVariants.{NotThere, BadStore, Site, Full, Memory}
use Rattle.tup_table.specs.declared.opened.Opened.{Opened}
use Rattle.tup_table.proofs.Compact.{compacted_fit, length-compact, length-puts}
use Rattle.tup_table.proofs.Fronts.{block}
use Rattle.tup_table.proofs.Stores.{area_one, area_not_broken, opened_low, read_so}

module _ (es : Standing) (fit : EntriesFit es) (small : live_size es ≤ most_live) where
  is_area : IsArea (compact_area es) (compacted es)
  is_area = (0 ∷ [], record { fits = compacted_fit es fit small; whole = refl }, inl (λ e. omega (arith, e)))

  pub snapshot_reads : (opened : Opened) → AreaReadsAs 17 (compact_area es) (Ok opened) → opened ≡ opened_of (compacted es)
  snapshot_reads opened reads = opened_low opened reads.0 reads.2 ∙ ap opened_of (area_one (compact_area es) reads.0 (compacted es) reads.1 is_area)

  pub snapshot_refused : (fault : TableFault) → AreaReadsAs 17 (compact_area es) (Err fault) → fault ≡ Memory
  snapshot_refused NotThere reads = absurd reads
  snapshot_refused (BadStore offset) reads = absurd (area_not_broken (compact_area es) (compacted es) reads.0 is_area reads.1)
  snapshot_refused Site reads = absurd reads
  snapshot_refused Full reads = absurd reads
  snapshot_refused Memory reads = absurd reads

  -- what the calls answer, of a slice of these bytes
  module _ (area slice : List ℕ) (seen : slice ≡ area) (made : area ≡ compact_area es) where
    pub short_slice : 17 + length slice ≤ 18446744073709551615
    short_slice = omega (arith, ap length (seen ∙ made), length-append header (compact_area es), length-compact es, small)

    pub snapshot_answer : (opened : Opened) → (Ok opened ≡ Err Memory) ⊎ AreaReadsAs 17 slice (Ok opened) → opened ≡ opened_of (compacted es)
    snapshot_answer opened (inl memory) = absurd (cc)
    snapshot_answer opened (inr reads) = snapshot_reads opened (subst (λ (a : List ℕ). AreaReadsAs 17 a (Ok opened)) (seen ∙ made) reads)

    pub snapshot_fault : (fault : TableFault) → (read_so fault ≡ Err Memory) ⊎ AreaReadsAs 17 slice (Err fault) → fault ≡ Memory
    snapshot_fault fault (inl memory) = cc
    snapshot_fault fault (inr reads) = snapshot_refused fault (subst (λ (a : List ℕ). AreaReadsAs 17 a (Err fault)) (seen ∙ made) reads)

-- ---- how it is written
-- the entries take fewer bytes than the store that they are compacted to
pub size_below : (size : ℕ) → size ≤ live_by size
size_below zero = omega arith
size_below (suc more) = omega arith

-- without entries it is a closed gate alone
pub bare_area : (es : Standing) → size_of es ≡ 0 → 0 ∷ [] ≡ compact_area es
bare_area [] none = refl
bare_area (e ∷ es) none = absurd (omega (arith, none))

-- with entries a commit stands before it
pub full_area : (es : Standing) (len : ℕ) → len ≡ size_of es → 0 < len → (1 ∷ (big_bytes 4 len ++ payload (puts es))) ++ 0 ∷ [] ≡ compact_area es
full_area [] len is some = absurd (omega (arith, is, some))
full_area (e ∷ es) len is some =
    let changes = puts (e ∷ es) in
    ap (λ (n : ℕ). (1 ∷ (big_bytes 4 n ++ payload changes)) ++ 0 ∷ []) (is ∙ sym (length-puts (e ∷ es)))
    ∙ ap (λ (t : List ℕ). t ++ 0 ∷ []) (sym (flat_map-cons block changes [] ∙ append-nil (block changes)))

pub written_area : (es : Standing) (len : ℕ) → len ≡ size_of es → 0 < len → (a b c d result : List ℕ) → a ≡ [] → b ≡ a ++ 1 ∷ [] → c ≡ b ++ big_bytes 4 len → d ≡ c ++ payload (puts es) → result ≡ d ++ 0 ∷ [] → result ≡ compact_area es
written_area es len is some a b c d result none gate number changes last =
    last
    ∙ ap (λ (t : List ℕ). t ++ 0 ∷ []) (changes ∙ ap (λ (t : List ℕ). t ++ payload (puts es)) (number ∙ ap (λ (t : List ℕ). t ++ big_bytes 4 len) (gate ∙ ap (λ (t : List ℕ). t ++ 1 ∷ []) none)))
    ∙ full_area es len is some

-- the loop: an entry that stands is put, and the others are left
pub one_put : (written new whole : List ℕ) (left rest : Standing) (key : List ℕ) (entry : Entry) → left ≡ (key, entry) ∷ rest → new ≡ written ++ change_spelling (put_of (key, entry.value)) → written ++ payload (puts left) ≡ whole
    → new ++ payload (puts rest) ≡ whole
one_put written new whole left rest key entry first put so_far =
    ap (λ (t : List ℕ). t ++ payload (puts rest)) put
    ∙ append_assoc written (change_spelling (put_of (key, entry.value))) (payload (puts rest))
    ∙ ap (λ (t : List ℕ). written ++ t) (sym (flat_map-cons change_spelling (put_of (key, entry.value)) (puts rest)))
    ∙ ap (λ (s : Standing). written ++ payload (puts s)) (sym first)
    ∙ so_far

-- the gate of a compacted store is its last byte
pub last_gate : (es : Standing) → (opened_of (compacted es)).gate + 1 ≡ live_size es
last_gate es =
    omega (arith, length-compact es, length-append header (compact_area es), length-append (blocks (compacted es)) (0 ∷ []), length-append header (blocks (compacted es)))
