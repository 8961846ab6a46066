-- What the writes of a table leave of a store at rest, and of what a crash leaves of it.
use Rattle.std.proofs.Common.{◌≡◌, ◌≢◌, ◌⊎◌, ℕ, ◌+◌, List, [], ◌∷◌, ◌++◌, length, get_or, take, drop, ◌≤◌, refl, sym, ap, subst, ◌∙◌, append_assoc, drop-drop, length-append, arith, inl, inr, ⊎_elim}
use Rattle.std.specs.List.{AllByRecursion}
use Rattle.std.proofs.lemmas.Bool.{cases_eq}
use Rattle.std.proofs.lemmas.List.{take_at, drop_at}
use Rattle.tup_site.specs.Crash.{GoesOn, WriteStep, PinsStore}
use Rattle.tup_site.specs.Store.{Holds, IsTorn}
use Rattle.tup_site.specs.World.{World}
use Rattle.tup_table.specs.Appending.{appending}
use Rattle.tup_table.specs.Entries.{Standing, entries_of}
use Rattle.tup_table.specs.Images.{Leaves, Keeps, CommitStep, IsNext, written_at}
use Rattle.tup_table.specs.Spelling.{blocks, CommitFits}
use Rattle.tup_table.specs.Store.{IsHead, IsStore, switch_of}
use Rattle.tup_table.specs.Table.{IsAtRest, Rests}
use Rattle.tup_table.specs.declared.change.Change.{Change}
use Rattle.tup_table.proofs.Appends.{closed_store, opened_store, opened_front}
use Rattle.tup_table.proofs.Apart.{all_more}
use Rattle.tup_table.proofs.Going.{IsEarlier, as_step, then_on}
use Rattle.tup_table.proofs.Torn.{torn_gate, written_gate, torn_behind, written_behind, torn_wider, torn_then}

-- a store that leaves these entries has their keys and values
pub kept : (entries : Standing) (bytes : List ℕ) → Leaves entries bytes → Keeps entries bytes
kept entries bytes leaves = (entries, leaves, refl)

-- ---- bytes
module _ (head : List ℕ) (is_head : IsHead head) (unswitched : switch_of head ≢ 1) (commits : List (List Change)) (changes : List Change) where
  abbrev front : List ℕ
  front = head ++ blocks commits

  abbrev more : List (List Change)
  more = commits ++ changes ∷ []

  -- a store with its last gate closed, whatever stands behind it
  pub closed_leaves : (gate : ℕ) (rest bytes : List ℕ) → AllByRecursion CommitFits commits → gate ≢ 1 → bytes ≡ front ++ gate ∷ rest → Keeps (entries_of commits) bytes
  closed_leaves gate rest bytes fits other is =
      kept (entries_of commits) bytes (commits, subst (λ (t : List ℕ). IsStore t commits) (sym is) (closed_store head is_head unswitched commits gate rest fits other), refl)

  opened_leaves : (rest bytes : List ℕ) → AllByRecursion CommitFits commits → CommitFits changes → bytes ≡ front ++ 1 ∷ (appending changes ++ rest) → Keeps (entries_of more) bytes
  opened_leaves rest bytes fits one is =
      kept (entries_of more) bytes (more, subst (λ (t : List ℕ). IsStore t more) (sym is) (opened_store head is_head unswitched commits changes rest fits one), refl)

  -- a commit behind a gate that holds any byte
  gate_leaves : (gate : ℕ) (rest bytes : List ℕ) → AllByRecursion CommitFits commits → CommitFits changes → bytes ≡ front ++ gate ∷ (appending changes ++ rest) → Keeps (entries_of commits) bytes ⊎ Keeps (entries_of more) bytes
  gate_leaves gate rest bytes fits one is =
      ⊎_elim
      (λ one_there. inr (opened_leaves rest bytes fits one (is ∙ ap (λ (g : ℕ). front ++ g ∷ (appending changes ++ rest)) one_there)))
      (λ closed. inl (closed_leaves gate (appending changes ++ rest) bytes fits closed is))
      (cases_eq gate 1)

  -- at rest once the gate is open
  at_rest_after : (rest bytes : List ℕ) → AllByRecursion CommitFits commits → CommitFits changes → bytes ≡ front ++ 1 ∷ (appending changes ++ rest) → IsAtRest more bytes
  at_rest_after rest bytes fits one is = record {
    fits = all_more CommitFits commits changes fits one;
    head = head;
    is_head = is_head;
    unswitched = unswitched;
    gate = 0;
    rest = rest;
    closed = λ e. omega (arith, e);
    whole = is ∙ opened_front head commits changes rest;
  }

-- a commit's two steps are one
joined : (before after : Standing) (u v w : World) → CommitStep before after u v → CommitStep before after v w → CommitStep before after u w
joined before after u v w one two = record { tree = two.tree ∙ one.tree; store = two.store }

-- ---- ranges
wider : (at n to m : ℕ) → to ≤ at → at + n ≤ to + m → (v w : World) → WriteStep at n v w → WriteStep to m v w
wider at n to m front behind v w step = record { torn = torn_wider at n to m v.store w.store front behind step.torn; tree = step.tree }

both_ranges : (at n : ℕ) (u v w : World) → WriteStep at n u v → WriteStep at n v w → WriteStep at n u w
both_ranges at n u v w one two = record { torn = torn_then at n u.store v.store w.store one.torn two.torn; tree = two.tree ∙ one.tree }

-- the first write of a commit
pub first_range : (gate n : ℕ) (v w : World) → WriteStep (gate + 1) n v w → WriteStep gate (1 + n) v w
first_range gate n v w step = wider (gate + 1) n gate (1 + n) (omega arith) (omega arith) v w step

-- both
pub whole_range : (gate n : ℕ) (u v w : World) → WriteStep (gate + 1) n u v → WriteStep gate 1 v w → WriteStep gate (1 + n) u w
whole_range gate n u v w one two =
    both_ranges gate (1 + n) u v w (first_range gate n u v one) (wider gate 1 gate (1 + n) (omega arith) (omega arith) v w two)

module _ {S : Type 0} (moment : S → ℕ) (left_since : S → ℕ → World → Type 0) (gate n : ℕ) (old mid : S) where
  pub first_behind : GoesOn moment left_since old mid (WriteStep (gate + 1) n) → GoesOn moment left_since old mid (WriteStep gate (1 + n))
  first_behind = as_step moment left_since old mid (WriteStep (gate + 1) n) (WriteStep gate (1 + n)) (λ v w left step. first_range gate n v w step)

  pub both_behind : (new : S) → IsEarlier moment left_since mid → GoesOn moment left_since old mid (WriteStep (gate + 1) n) → GoesOn moment left_since mid new (WriteStep gate 1) → GoesOn moment left_since old new (WriteStep gate (1 + n))
  both_behind new earlier first second =
      then_on moment left_since old mid new (WriteStep gate (1 + n)) earlier (both_ranges gate (1 + n)) (first_behind first)
      (as_step moment left_since mid new (WriteStep gate 1) (WriteStep gate (1 + n)) (λ v w left step. wider gate 1 gate (1 + n) (omega arith) (omega arith) v w step) second)

-- ---- the writes of a commit
module _ {S : Type 0} (world : S → World) (moment : S → ℕ) (left_since : S → ℕ → World → Type 0) (commits : List (List Change)) (changes : List Change) (gate : ℕ) (bytes : List ℕ) (old : S) (rests : Rests world moment left_since commits old) (next : IsNext commits changes gate bytes) where
  abbrev before : Standing
  before = entries_of commits

  abbrev after : Standing
  after = entries_of (commits ++ changes ∷ [])

  abbrev shown : List ℕ
  shown = rests.bytes.head ++ blocks commits

  ends : length shown ≡ gate
  ends = omega (arith, length-append rests.bytes.head (blocks commits), rests.bytes.is_head.long, next.place)

  first_crash : (v w : World) → left_since old (moment old) v → WriteStep (gate + 1) (length bytes) v w → CommitStep before after v w
  first_crash v w left step =
      let r = rests.bytes in
      let torn : IsTorn (gate + 1) (length bytes) (shown ++ r.gate ∷ r.rest) w.store =
      subst (λ (s : List ℕ). IsTorn (gate + 1) (length bytes) s w.store) (rests.durable v left ∙ r.whole) step.torn in
      let is = torn_behind shown gate ends r.gate (length bytes) r.rest w.store torn in
      record { tree = step.tree; store = inl (closed_leaves r.head r.is_head r.unswitched commits changes r.gate (drop (gate + 1) w.store) w.store r.fits r.closed is) }

  pub first_goes : (new : S) → GoesOn moment left_since old new (WriteStep (gate + 1) (length bytes)) → GoesOn moment left_since old new (CommitStep before after)
  first_goes new = as_step moment left_since old new (WriteStep (gate + 1) (length bytes)) (CommitStep before after) first_crash

  module _ (mid : S) (written : Holds (world old).store (gate + 1) bytes (world mid).store) (durable : PinsStore (left_since mid (moment mid)) (world mid)) where
    abbrev behind : List ℕ
    behind = drop (length bytes) rests.bytes.rest

    mid_is : (world mid).store ≡ shown ++ rests.bytes.gate ∷ (appending changes ++ behind)
    mid_is =
        let r = rests.bytes in
        written_behind shown gate ends r.gate r.rest bytes (world mid).store (subst (λ (s : List ℕ). Holds s (gate + 1) bytes (world mid).store) r.whole written)
        ∙ ap (λ (b : List ℕ). shown ++ r.gate ∷ (b ++ behind)) next.spelling

    second_crash : (v w : World) → left_since mid (moment mid) v → WriteStep gate 1 v w → CommitStep before after v w
    second_crash v w left step =
        let r = rests.bytes in
        let torn : IsTorn gate 1 (shown ++ r.gate ∷ (appending changes ++ behind)) w.store =
        subst (λ (s : List ℕ). IsTorn gate 1 s w.store) (durable v left ∙ mid_is) step.torn in
        let is = torn_gate shown gate ends r.gate (appending changes ++ behind) w.store torn in
        record { tree = step.tree; store = gate_leaves r.head r.is_head r.unswitched commits changes (get_or w.store gate 0) behind w.store r.fits next.fits is }

    pub commit_goes : (new : S) → IsEarlier moment left_since mid → GoesOn moment left_since old mid (WriteStep (gate + 1) (length bytes)) → GoesOn moment left_since mid new (WriteStep gate 1)
        → GoesOn moment left_since old new (CommitStep before after)
    commit_goes new earlier first second =
        then_on moment left_since old mid new (CommitStep before after) earlier (joined before after) (first_goes mid first)
        (as_step moment left_since mid new (WriteStep gate 1) (CommitStep before after) second_crash second)

    last_is : (new : S) → Holds (world mid).store gate (1 ∷ []) (world new).store → (world new).store ≡ shown ++ 1 ∷ (appending changes ++ behind)
    last_is new opened =
        let r = rests.bytes in
        written_gate shown gate ends r.gate 1 (appending changes ++ behind) (world new).store (subst (λ (s : List ℕ). Holds s gate (1 ∷ []) (world new).store) mid_is opened)

    -- these bytes, by what was there
    pub bytes_after : (new : S) → Holds (world mid).store gate (1 ∷ []) (world new).store → (world new).store ≡ written_at gate changes (world old).store
    bytes_after new opened =
        let r = rests.bytes in
        let n = length (appending changes) in
        let old_is : (world old).store ≡ (shown ++ r.gate ∷ []) ++ r.rest = r.whole ∙ sym (append_assoc shown (r.gate ∷ []) r.rest) in
        let front : take gate (world old).store ≡ shown = ap (take gate) r.whole ∙ take_at shown (r.gate ∷ r.rest) gate ends in
        let gated : drop (gate + 1) (world old).store ≡ r.rest = ap (drop (gate + 1)) old_is ∙ drop_at (shown ++ r.gate ∷ []) r.rest (gate + 1) (omega (arith, ends, length-append shown (r.gate ∷ []))) in
        let past : drop (gate + (1 + n)) (world old).store ≡ drop n r.rest =
        ap (λ (k : ℕ). drop k (world old).store) (omega arith) ∙ sym (drop-drop n (gate + 1) (world old).store) ∙ ap (drop n) gated in
        let long : length bytes ≡ n = ap length next.spelling in
        last_is new opened
        ∙ ap (λ (t : List ℕ). shown ++ 1 ∷ (appending changes ++ t)) (ap (λ (k : ℕ). drop k r.rest) long ∙ sym past)
        ∙ ap (λ (t : List ℕ). t ++ 1 ∷ (appending changes ++ drop (gate + (1 + n)) (world old).store)) (sym front)

    pub rests_after : (new : S) → Holds (world mid).store gate (1 ∷ []) (world new).store → PinsStore (left_since new (moment new)) (world new) → Rests world moment left_since (commits ++ changes ∷ []) new
    rests_after new opened pinned =
        let r = rests.bytes in
        record { bytes = at_rest_after r.head r.is_head r.unswitched commits changes behind (world new).store r.fits next.fits (last_is new opened); durable = pinned }
