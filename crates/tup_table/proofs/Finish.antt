-- How compacting is finished once the switch is open: the low area is written, the switch is closed, and the store is cut.
use Rattle.std.proofs.Common.{◌≡◌, ◌≢◌, ℕ, ◌+◌, ◌-◌, ◌≤◌, List, [], ◌∷◌, ◌++◌, length, get_or, take, drop, refl, sym, ap, subst, ◌∙◌, append_assoc, length-append, length-drop, length-take-le, drop-drop, take-append-drop, arith, inl, inr, ⊎_elim}
use Rattle.std.proofs.lemmas.Bool.{cases_eq}
use Rattle.std.proofs.lemmas.List.{take_at, drop_at, drop_more, drop-append-le}
use Rattle.byteorder.specs.Endian.{big_number}
use Rattle.tup_site.specs.Crash.{GoesOn, WriteStep, CutStep, PinsStore}
use Rattle.tup_site.specs.Store.{Holds, IsTorn}
use Rattle.tup_site.specs.World.{World}
use Rattle.tup_table.specs.Compact.{compacted, compact_area}
use Rattle.tup_table.specs.Entries.{Standing, entries_of}
use Rattle.tup_table.specs.Images.{IsFinishing, FinishStep, MayCloseHigh, compacted_store}
use Rattle.tup_table.specs.Spelling.{blocks}
use Rattle.tup_table.specs.Store.{first_bytes, header, switch_of, start_of, high_area, IsHead, IsHigh}
use Rattle.tup_table.specs.Table.{IsAtRest, Rests, Switches}
use Rattle.tup_table.specs.declared.change.Change.{Change}
use Rattle.tup_table.proofs.Compact.{length-compact, entries_fit, compacted_fit}
use Rattle.tup_table.proofs.Going.{IsEarlier, as_step, then_on}
use Rattle.tup_table.proofs.Torn.{torn_gate, written_gate, drop_behind}

-- ---- a head with another switch
module _ (head : List ℕ) (is_head : IsHead head) where
  abbrev pub with_switch : ℕ → List ℕ
  with_switch switch = take 8 head ++ switch ∷ drop 9 head

  pub eight : length (take 8 head) ≡ 8
  eight = length-take-le 8 head (omega (arith, is_head.long))

  shown : (switch : ℕ) → with_switch switch ≡ first_bytes ++ switch ∷ drop 9 head
  shown switch = ap (λ (first : List ℕ). first ++ switch ∷ drop 9 head) is_head.first

  pub still_head : (switch : ℕ) → IsHead (with_switch switch)
  still_head switch = record {
    long = omega (arith, length-append (take 8 head) (switch ∷ drop 9 head), eight, length-drop 9 head, is_head.long);
    first = take_at (take 8 head) (switch ∷ drop 9 head) 8 eight ∙ is_head.first;
  }

  pub switch_is : (switch : ℕ) → switch_of (with_switch switch) ≡ switch
  switch_is switch = ap (λ (h : List ℕ). get_or h 8 0) (shown switch)

  pub start_stays : (switch : ℕ) → drop 9 (with_switch switch) ≡ drop 9 head
  start_stays switch = ap (drop 9) (shown switch)

  pub own_switch : head ≡ with_switch (switch_of head)
  own_switch =
      sym (take-append-drop 8 head) ∙ ap (λ (t : List ℕ). take 8 head ++ t) (drop_more head 8 0 (omega (arith, is_head.long)))

  -- the switch of a store is a gate behind eight bytes
  pub at_switch : (switch : ℕ) (low : List ℕ) → with_switch switch ++ low ≡ take 8 head ++ switch ∷ (drop 9 head ++ low)
  at_switch switch low = append_assoc (take 8 head) (switch ∷ drop 9 head) low

-- the start stands behind the switch
pub start_bytes : (head low bytes : List ℕ) → IsHead head → bytes ≡ head ++ low → take 8 (drop 9 bytes) ≡ drop 9 head
start_bytes head low bytes is whole =
    ap (take 8) (ap (drop 9) whole ∙ drop-append-le 9 head low (omega (arith, is.long))) ∙ take_at (drop 9 head) low 8 (omega (arith, length-drop 9 head, is.long))

-- ---- the bytes while compacting is finished
module _ (before : List ℕ) (commits : List (List Change)) (high : IsHigh before commits) where
  abbrev entries : Standing
  entries = entries_of commits

  abbrev area : List ℕ
  area = compact_area entries

  area_fits : 17 + length area ≤ start_of high.head
  area_fits = omega (arith, length-append header area, length-compact entries, high.room.below)

  area_inside : length area ≤ length high.low
  area_inside = omega (arith, area_fits, high.start.inside)

  high_stays : (head low : List ℕ) → drop 9 head ≡ drop 9 high.head → drop (length area) low ≡ drop (length area) high.low → high_area head low ≡ high_area high.head high.low
  high_stays head low start same =
      ap (λ (nine : List ℕ). drop (big_number 8 nine - 17) low) start
      ∙ drop_behind (length area) (start_of high.head - 17) low high.low (omega (arith, area_fits)) same

  unclosed : (other : List ℕ) → other ≡ high_area high.head high.low → MayCloseHigh commits (high_area high.head high.low) other
  unclosed other same = let there = high.area in (there.0, there.0, there.1.whole, inl refl, same ∙ there.1.whole)

  -- the switch is open: only what stands before the high area was written
  still_high : (w head low : List ℕ) → IsHead head → drop 9 head ≡ drop 9 high.head → switch_of head ≡ 1 → w ≡ head ++ low → length high.low ≤ length low → drop (length area) low ≡ drop (length area) high.low → IsFinishing before w
  still_high w head low is start switched whole long same = record {
    commits = commits;
    high = high;
    head = head;
    low = low;
    parts = record { is_head = is; whole = whole };
    start = start;
    area = inl (switched, omega (arith, high.start.inside, long), unclosed (high_area head low) (high_stays head low start same));
  }

  -- it is closed, behind the low area
  now_low : (w head rest : List ℕ) → IsHead head → drop 9 head ≡ drop 9 high.head → switch_of head ≢ 1 → w ≡ head ++ (area ++ rest) → IsFinishing before w
  now_low w head rest is start closed whole = record {
    commits = commits;
    high = high;
    head = head;
    low = area ++ rest;
    parts = record { is_head = is; whole = whole };
    start = start;
    area = inr (closed, rest, refl);
  }

  -- ---- the low area is written
  front_17 : (w : List ℕ) → take 17 w ≡ take 17 before → w ≡ high.head ++ drop 17 w
  front_17 w same =
      sym (take-append-drop 17 w)
      ∙ ap (λ (t : List ℕ). t ++ drop 17 w) (same ∙ ap (take 17) high.parts.whole ∙ take_at high.head high.low 17 high.parts.is_head.long)

  behind_17 : drop 17 before ≡ high.low
  behind_17 = ap (drop 17) high.parts.whole ∙ drop_at high.head high.low 17 high.parts.is_head.long

  further : (n : ℕ) (w : List ℕ) → drop n (drop 17 w) ≡ drop (17 + n) w
  further n w = drop-drop n 17 w

  pub first_torn : (w : List ℕ) → IsTorn 17 (length area) before w → IsFinishing before w
  first_torn w torn =
      still_high w high.head (drop 17 w) high.parts.is_head refl high.switched (front_17 w torn.before)
      (omega (arith, length-drop 17 w, torn.no_shorter, ap length high.parts.whole, length-append high.head high.low, high.parts.is_head.long))
      (further (length area) w ∙ torn.after ∙ sym (further (length area) before) ∙ ap (drop (length area)) behind_17)

  abbrev mid_low : List ℕ
  mid_low = area ++ drop (length area) high.low

  pub first_written : (mid : List ℕ) → Holds before 17 area mid → mid ≡ high.head ++ mid_low
  first_written mid holds =
      holds
      ∙ ap (λ (t : List ℕ). t ++ (area ++ drop (17 + length area) before)) (ap (take 17) high.parts.whole ∙ take_at high.head high.low 17 high.parts.is_head.long)
      ∙ ap (λ (t : List ℕ). high.head ++ (area ++ t)) (sym (further (length area) before) ∙ ap (drop (length area)) behind_17)

  mid_drops : drop (length area) mid_low ≡ drop (length area) high.low
  mid_drops = drop_at area (drop (length area) high.low) (length area) refl

  mid_long : length mid_low ≡ length high.low
  mid_long = omega (arith, length-append area (drop (length area) high.low), length-drop (length area) high.low, area_inside)

  -- ---- the switch is closed
  module _ (mid : List ℕ) (mid_is : mid ≡ high.head ++ mid_low) where
    abbrev h : List ℕ
    h = high.head

    at_8 : mid ≡ take 8 h ++ switch_of h ∷ (drop 9 h ++ mid_low)
    at_8 = mid_is ∙ ap (λ (t : List ℕ). t ++ mid_low) (own_switch h high.parts.is_head) ∙ at_switch h high.parts.is_head (switch_of h) mid_low

    switch_torn : (w : List ℕ) → IsTorn 8 1 mid w → w ≡ with_switch h high.parts.is_head (get_or w 8 0) ++ mid_low
    switch_torn w torn =
        torn_gate (take 8 h) 8 (eight h high.parts.is_head) (switch_of h) (drop 9 h ++ mid_low) w (subst (λ (s : List ℕ). IsTorn 8 1 s w) at_8 torn)
        ∙ sym (at_switch h high.parts.is_head (get_or w 8 0) mid_low)

    pub second_torn : (w : List ℕ) → IsTorn 8 1 mid w → IsFinishing before w
    second_torn w torn =
        let b = get_or w 8 0 in
        let head = with_switch h high.parts.is_head b in
        let whole = switch_torn w torn in
        ⊎_elim
        (λ one. still_high w head mid_low (still_head h high.parts.is_head b) (start_stays h high.parts.is_head b) (switch_is h high.parts.is_head b ∙ one) whole (omega (arith, mid_long)) mid_drops)
        (λ closed. now_low w head (drop (length area) high.low) (still_head h high.parts.is_head b) (start_stays h high.parts.is_head b) (λ e. closed (sym (switch_is h high.parts.is_head b) ∙ e)) whole)
        (cases_eq b 1)

    pub second_written : (last : List ℕ) → Holds mid 8 (0 ∷ []) last → last ≡ with_switch h high.parts.is_head 0 ++ mid_low
    second_written last holds =
        written_gate (take 8 h) 8 (eight h high.parts.is_head) (switch_of h) 0 (drop 9 h ++ mid_low) last (subst (λ (s : List ℕ). Holds s 8 (0 ∷ []) last) at_8 holds)
        ∙ sym (at_switch h high.parts.is_head 0 mid_low)

  -- ---- the store is cut
  module _ (last : List ℕ) (last_is : last ≡ with_switch high.head high.parts.is_head 0 ++ mid_low) where
    abbrev low_head : List ℕ
    low_head = with_switch high.head high.parts.is_head 0

    low_is_head : IsHead low_head
    low_is_head = still_head high.head high.parts.is_head 0

    low_closed : switch_of low_head ≢ 1
    low_closed e = let no : 0 ≡ 1 = sym (switch_is high.head high.parts.is_head 0) ∙ e in omega (arith, no)

    front_long : length (low_head ++ area) ≡ 17 + length area
    front_long = omega (arith, length-append low_head area, low_is_head.long)

    cut_front : take (17 + length area) last ≡ low_head ++ area
    cut_front =
        ap (take (17 + length area)) (last_is ∙ sym (append_assoc low_head area (drop (length area) high.low)))
        ∙ take_at (low_head ++ area) (drop (length area) high.low) (17 + length area) front_long

    pub third_cut : (w : List ℕ) → take (17 + length area) w ≡ take (17 + length area) last → IsFinishing before w
    third_cut w same =
        let rest = drop (17 + length area) w in
        now_low w low_head rest low_is_head (start_stays high.head high.parts.is_head 0) low_closed
        (sym (take-append-drop (17 + length area) w) ∙ ap (λ (t : List ℕ). t ++ rest) (same ∙ cut_front) ∙ append_assoc low_head area rest)

    pub third_written : (new : List ℕ) → new ≡ take (17 + length area) last → new ≡ low_head ++ area
    third_written new is = is ∙ cut_front

    -- where compacting ends
    pub ends_compact : (new : List ℕ) → new ≡ low_head ++ area → new ≡ compacted_store (take 8 (drop 9 before)) entries
    ends_compact new is =
        let start = start_bytes high.head high.low before high.parts.is_head high.parts.whole in
        is ∙ ap (λ (t : List ℕ). t ++ area) (shown high.head high.parts.is_head 0) ∙ append_assoc first_bytes (0 ∷ drop 9 high.head) area
        ∙ ap (λ (t : List ℕ). first_bytes ++ 0 ∷ (t ++ area)) (sym start)

    pub ends_at_rest : (new : List ℕ) → new ≡ low_head ++ area → IsAtRest (compacted entries) new
    ends_at_rest new is = record {
      fits = compacted_fit entries (entries_fit commits high.area.1.fits) high.room.small;
      head = low_head;
      is_head = low_is_head;
      unswitched = low_closed;
      gate = 0;
      rest = [];
      closed = λ e. omega (arith, e);
      whole = is ∙ sym (append_assoc low_head (blocks (compacted entries)) (0 ∷ []));
    }

-- ---- the calls
joined : (before : List ℕ) (u v w : World) → FinishStep before u v → FinishStep before v w → FinishStep before u w
joined before u v w one two = record { tree = two.tree ∙ one.tree; store = two.store }

module _ {S : Type 0} (world : S → World) (moment : S → ℕ) (left_since : S → ℕ → World → Type 0) (commits : List (List Change)) (area : List ℕ) (old : S) (switches : Switches world moment left_since commits area old) where
  abbrev before : List ℕ
  before = (world old).store

  abbrev step : World → World → Type 0
  step = FinishStep before

  long : length area ≡ length (compact_area (entries_of commits))
  long = ap length switches.is_area

  pub first_goes : (new : S) → GoesOn moment left_since old new (WriteStep 17 (length area)) → GoesOn moment left_since old new step
  first_goes new =
      as_step moment left_since old new (WriteStep 17 (length area)) step (λ v w left one. record {
        tree = one.tree;
        store =
            first_torn before commits switches.high w.store
            (subst (λ (n : ℕ). IsTorn 17 n before w.store) long (subst (λ (s : List ℕ). IsTorn 17 (length area) s w.store) (switches.durable v left) one.torn));
      })

  module _ (mid : S) (written : Holds before 17 area (world mid).store) (durable : PinsStore (left_since mid (moment mid)) (world mid)) (earlier : IsEarlier moment left_since mid) (first : GoesOn moment left_since old mid (WriteStep 17 (length area))) where
    mid_is : (world mid).store ≡ switches.high.head ++ (compact_area (entries_of commits) ++ drop (length (compact_area (entries_of commits))) switches.high.low)
    mid_is = first_written before commits switches.high (world mid).store (subst (λ (a : List ℕ). Holds before 17 a (world mid).store) switches.is_area written)

    pub second_goes : (new : S) → GoesOn moment left_since mid new (WriteStep 8 1) → GoesOn moment left_since old new step
    second_goes new on =
        then_on moment left_since old mid new step earlier (joined before) (first_goes mid first)
        (as_step moment left_since mid new (WriteStep 8 1) step (λ v w left one. record {
          tree = one.tree;
          store = second_torn before commits switches.high (world mid).store mid_is w.store (subst (λ (s : List ℕ). IsTorn 8 1 s w.store) (durable v left) one.torn);
        }) on)

    module _ (last : S) (closed : Holds (world mid).store 8 (0 ∷ []) (world last).store) (pinned : PinsStore (left_since last (moment last)) (world last)) (late : IsEarlier moment left_since last) (second : GoesOn moment left_since mid last (WriteStep 8 1)) where
      last_is : (world last).store ≡ with_switch switches.high.head switches.high.parts.is_head 0 ++ (compact_area (entries_of commits) ++ drop (length (compact_area (entries_of commits))) switches.high.low)
      last_is = second_written before commits switches.high (world mid).store mid_is (world last).store closed

      pub third_goes : (new : S) → GoesOn moment left_since last new (CutStep (17 + length area)) → GoesOn moment left_since old new step
      third_goes new on =
          then_on moment left_since old last new step late (joined before) (second_goes last second)
          (as_step moment left_since last new (CutStep (17 + length area)) step (λ v w left one. record {
            tree = one.tree;
            store =
                third_cut before commits switches.high (world last).store last_is w.store
                (subst (λ (n : ℕ). take (17 + n) w.store ≡ take (17 + n) (world last).store) long (one.front ∙ ap (take (17 + length area)) (pinned v left)));
          }) on)

      cut_is : (new : List ℕ) → new ≡ take (17 + length area) (world last).store → new ≡ with_switch switches.high.head switches.high.parts.is_head 0 ++ compact_area (entries_of commits)
      cut_is new is = third_written before commits switches.high (world last).store last_is new (is ∙ ap (λ (n : ℕ). take (17 + n) (world last).store) long)

      pub ends_so : (new : List ℕ) → new ≡ take (17 + length area) (world last).store → new ≡ compacted_store (take 8 (drop 9 before)) (entries_of commits)
      ends_so new is = ends_compact before commits switches.high (world last).store last_is new (cut_is new is)

      pub rests_so : (new : S) → (world new).store ≡ take (17 + length area) (world last).store → PinsStore (left_since new (moment new)) (world new) → Rests world moment left_since (compacted (entries_of commits)) new
      rests_so new is pins = record {
        bytes = ends_at_rest before commits switches.high (world last).store last_is (world new).store (cut_is (world new).store is);
        durable = pins;
      }
