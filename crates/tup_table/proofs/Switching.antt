-- How compacting begins: the high area and its start are written behind a closed switch, and then the switch is opened.
use Rattle.std.proofs.Common.{◌≡◌, ◌≢◌, ℕ, ◌+◌, ◌-◌, ◌≤◌, List, [], ◌∷◌, ◌++◌, length, get_or, take, drop, refl, sym, ap, subst, ◌∙◌, append_assoc, append-nil, length-append, length-drop, length-take-le, drop-drop, take-append-drop, arith, inl, inr, ⊎_elim}
use Rattle.std.proofs.lemmas.Bool.{cases_eq}
use Rattle.std.proofs.lemmas.List.{take_at, drop_at, take-append-le, drop-append-le, get_or-take, get_or_append_left, drop_all}
use Rattle.std.proofs.Math.Seq.{take-length}
use Rattle.byteorder.specs.Endian.{big_number}
use Rattle.tup_site.specs.Crash.{GoesOn, NoStep, WriteStep, PinsStore}
use Rattle.tup_site.specs.Store.{Holds, IsTorn}
use Rattle.tup_site.specs.World.{World}
use Rattle.tup_table.specs.Compact.{compacted, compact_area, live_by, live_size}
use Rattle.tup_table.specs.Entries.{Standing, entries_of}
use Rattle.tup_table.specs.Images.{CompactStep, FinishStep, Keeps, compacted_store}
use Rattle.tup_table.specs.Spelling.{blocks}
use Rattle.tup_table.specs.Store.{first_bytes, header, switch_of, start_of, high_area, most_live, IsHead, IsHigh, IsStore}
use Rattle.tup_table.specs.Table.{IsAtRest, IsBoth, HoldsBoth, Rests, Switches}
use Rattle.tup_table.specs.declared.change.Change.{Change}
use Rattle.tup_table.proofs.Compact.{compacted_values, compacted_again, entries_fit, compacted_fit}
use Rattle.tup_table.proofs.Finish.{with_switch, still_head, switch_is, start_stays, own_switch, at_switch, eight}
use Rattle.tup_table.proofs.Going.{IsEarlier, as_step, then_on, still_durable}
use Rattle.tup_table.proofs.Keys.{commits_ascending}
use Rattle.tup_table.proofs.Openings.{finishing_store}
use Rattle.tup_table.proofs.Rested.{closed_leaves}
use Rattle.tup_table.proofs.Sizes.{compact_shorter, size_same}
use Rattle.tup_table.proofs.Stores.{area_one, high_as}
use Rattle.tup_table.proofs.Torn.{torn_gate, written_gate, take-take, take_front}

-- ---- the bytes while the high area and its start are written
module _ (commits : List (List Change)) (old : List ℕ) (rests : IsAtRest commits old) where
  -- the low area stands as it was, and anything may stand behind it; in the head the start may have changed
  pub record StandsLow (w : List ℕ) : Type 0 where
    pub head : List ℕ
    pub is_head : IsHead head
    pub closed : switch_of head ≢ 1
    pub more : List ℕ
    pub whole : w ≡ head ++ (blocks commits ++ rests.gate ∷ (rests.rest ++ more))

  pub low_keeps : (w : List ℕ) → StandsLow w → Keeps (entries_of commits) w
  low_keeps w low =
      closed_leaves low.head low.is_head low.closed commits [] rests.gate (rests.rest ++ low.more) w rests.fits rests.closed
      (low.whole ∙ sym (append_assoc low.head (blocks commits) (rests.gate ∷ (rests.rest ++ low.more))))

  pub low_rests : (w : List ℕ) → StandsLow w → IsAtRest commits w
  low_rests w low = record {
    fits = rests.fits;
    head = low.head;
    is_head = low.is_head;
    unswitched = low.closed;
    gate = rests.gate;
    rest = rests.rest ++ low.more;
    closed = rests.closed;
    whole = low.whole ∙ sym (append_assoc low.head (blocks commits) (rests.gate ∷ (rests.rest ++ low.more)));
  }

  -- behind the end
  pub grown : (w more : List ℕ) → w ≡ old ++ more → StandsLow w
  grown w more is = record {
    head = rests.head;
    is_head = rests.is_head;
    closed = rests.unswitched;
    more = more;
    whole =
        is ∙ ap (λ (t : List ℕ). t ++ more) rests.whole ∙ append_assoc (rests.head ++ blocks commits) (rests.gate ∷ rests.rest) more
        ∙ append_assoc rests.head (blocks commits) (rests.gate ∷ (rests.rest ++ more));
  }

  -- a write at the end that is torn
  pub torn_at_end : (n : ℕ) (w : List ℕ) → IsTorn (length old) n old w → w ≡ old ++ drop (length old) w
  torn_at_end n w torn =
      sym (take-append-drop (length old) w) ∙ ap (λ (t : List ℕ). t ++ drop (length old) w) (torn.before ∙ take_all)
    where
      take_all : take (length old) old ≡ old
      take_all = sym (ap (λ (t : List ℕ). take (length old) t) (append-nil old)) ∙ take_at old [] (length old) refl

  -- the start is written over
  pub new_start : (w v : List ℕ) → StandsLow v → IsTorn 9 8 v w → 17 ≤ length v → StandsLow w
  new_start w v low torn long =
      let head = take 17 w in
      let first : take 9 head ≡ take 9 low.head =
      take-take 9 17 w (omega arith) ∙ torn.before ∙ ap (take 9) low.whole ∙ take-append-le 9 low.head (blocks commits ++ rests.gate ∷ (rests.rest ++ low.more)) (omega (arith, low.is_head.long)) in
      let behind : drop 17 w ≡ blocks commits ++ rests.gate ∷ (rests.rest ++ low.more) = torn.after ∙ ap (drop 17) low.whole ∙ drop_at low.head (blocks commits ++ rests.gate ∷ (rests.rest ++ low.more)) 17 low.is_head.long in
      record {
        head = head;
        is_head = record {
          long = length-take-le 17 w (omega (arith, torn.no_shorter, long));
          first = take_front 8 9 head low.head (omega arith) first ∙ low.is_head.first;
        };
        closed = λ e. low.closed (sym (switch_by_front low.head) ∙ ap (λ (t : List ℕ). get_or t 8 0) (sym first) ∙ switch_by_front head ∙ e);
        more = low.more;
        whole = sym (take-append-drop 17 w) ∙ ap (λ (t : List ℕ). head ++ t) behind;
      }
    where
      switch_by_front : (head : List ℕ) → get_or (take 9 head) 8 0 ≡ get_or head 8 0
      switch_by_front head = get_or-take 9 head 8 0 (omega arith)

-- ---- the switch is opened
module _ (commits : List (List Change)) (nine area bytes : List ℕ) (both : IsBoth commits nine area bytes) (is : area ≡ compact_area (entries_of commits)) (small : live_size (entries_of commits) ≤ most_live) where
  abbrev entries : Standing
  entries = entries_of commits

  abbrev low : List ℕ
  low = blocks commits ++ both.low.gate ∷ both.low.rest

  pub low_whole : bytes ≡ both.low.head ++ low
  low_whole = both.low.whole ∙ append_assoc both.low.head (blocks commits) (both.low.gate ∷ both.low.rest)

  pub at_8 : bytes ≡ take 8 both.low.head ++ switch_of both.low.head ∷ (drop 9 both.low.head ++ low)
  at_8 = low_whole ∙ ap (λ (t : List ℕ). t ++ low) (own_switch both.low.head both.low.is_head) ∙ at_switch both.low.head both.low.is_head (switch_of both.low.head) low

  torn_is : (w : List ℕ) → IsTorn 8 1 bytes w → w ≡ with_switch both.low.head both.low.is_head (get_or w 8 0) ++ low
  torn_is w torn =
      torn_gate (take 8 both.low.head) 8 (eight both.low.head both.low.is_head) (switch_of both.low.head) (drop 9 both.low.head ++ low) w (subst (λ (s : List ℕ). IsTorn 8 1 s w) at_8 torn)
      ∙ sym (at_switch both.low.head both.low.is_head (get_or w 8 0) low)

  -- the high area is that of a store that is compacted to the same commit
  abbrev is_high : (w : List ℕ) (switch : ℕ) → switch ≡ 1 → w ≡ with_switch both.low.head both.low.is_head switch ++ low → IsHigh w (compacted entries)
  is_high w switch one whole =
      let head = with_switch both.low.head both.low.is_head switch in
      let start : start_of head ≡ big_number 8 nine = ap (big_number 8) (start_stays both.low.head both.low.is_head switch ∙ both.start) in
      let long : length bytes ≡ 17 + length low = ap length low_whole ∙ length-append both.low.head low ∙ ap (λ (n : ℕ). n + length low) both.low.is_head.long in
      let behind : 18 ≤ big_number 8 nine = omega (arith, both.behind, length-append header (blocks commits)) in
      let cut : drop (start_of head - 17) low ≡ drop (big_number 8 nine) bytes =
      ap (λ (n : ℕ). drop (n - 17) low) start
      ∙ sym (ap (drop (big_number 8 nine - 17)) (ap (drop 17) low_whole ∙ drop_at both.low.head low 17 both.low.is_head.long))
      ∙ drop-drop (big_number 8 nine - 17) 17 bytes ∙ ap (λ (n : ℕ). drop n bytes) (omega (arith, behind)) in
      let same : live_size (entries_of (compacted entries)) ≡ live_size entries = ap live_by (size_same (entries_of (compacted entries)) entries (compacted_values entries (commits_ascending commits))) in
      record {
        head = head;
        low = low;
        parts = record { is_head = still_head both.low.head both.low.is_head switch; whole = whole };
        switched = switch_is both.low.head both.low.is_head switch ∙ one;
        start = record { behind = omega (arith, start, behind); inside = omega (arith, start, both.inside, long) };
        area = (
          0 ∷ both.high,
          record {
            fits = compacted_fit entries (entries_fit commits both.low.fits) small;
            whole = cut ∙ both.is_high ∙ ap (λ (t : List ℕ). t ++ both.high) is ∙ append_assoc (blocks (compacted entries)) (0 ∷ []) both.high;
          },
          inl (λ e. omega (arith, e)),
        );
        room = record { below = omega (arith, same, start, compact_shorter commits, both.behind); small = omega (arith, same, small) };
      }

  -- a store of the same keys and values, whatever stands at the switch
  pub switch_keeps : (w : List ℕ) → IsTorn 8 1 bytes w → Keeps entries w
  switch_keeps w torn =
      let b = get_or w 8 0 in
      let head = with_switch both.low.head both.low.is_head b in
      ⊎_elim
      (λ one.
      let again = compacted_again entries (commits_ascending commits) in
      (entries_of (compacted entries), (compacted entries, inr (compacted entries, is_high w b one (torn_is w torn), sym again), refl), compacted_values entries (commits_ascending commits)))
      (λ closed.
      closed_leaves head (still_head both.low.head both.low.is_head b) (λ e. closed (sym (switch_is both.low.head both.low.is_head b) ∙ e)) commits [] both.low.gate both.low.rest w both.low.fits both.low.closed
      (torn_is w torn ∙ sym (append_assoc head (blocks commits) (both.low.gate ∷ both.low.rest))))
      (cases_eq b 1)

  -- open
  abbrev pub switched_high : (new : List ℕ) → Holds bytes 8 (1 ∷ []) new → IsHigh new (compacted entries)
  switched_high new holds =
      is_high new 1 refl
      (written_gate (take 8 both.low.head) 8 (eight both.low.head both.low.is_head) (switch_of both.low.head) 1 (drop 9 both.low.head ++ low) new (subst (λ (s : List ℕ). Holds s 8 (1 ∷ []) new) at_8 holds)
      ∙ sym (at_switch both.low.head both.low.is_head 1 low))

-- ---- the high area and its start, written
module _ (commits : List (List Change)) (old : List ℕ) (rests : IsAtRest commits old) (area eight_bytes : List ℕ) (long : length eight_bytes ≡ 8) (says : big_number 8 eight_bytes ≡ length old) where
  abbrev tail_bytes : List ℕ
  tail_bytes = blocks commits ++ rests.gate ∷ rests.rest

  pub high_written : (mid : List ℕ) → Holds old (length old) area mid → mid ≡ old ++ area
  high_written mid holds =
      holds ∙ ap (λ (t : List ℕ). t ++ (area ++ drop (length old + length area) old)) (take-length old)
      ∙ ap (λ (t : List ℕ). old ++ (area ++ t)) (drop_all (length old + length area) old (omega arith)) ∙ ap (λ (t : List ℕ). old ++ t) (append-nil area)

  module _ (mid : List ℕ) (mid_is : mid ≡ old ++ area) (new : List ℕ) (holds : Holds mid 9 eight_bytes new) where
    abbrev head_now : List ℕ
    head_now = take 9 rests.head ++ eight_bytes

    nine_long : length (take 9 rests.head) ≡ 9
    nine_long = length-take-le 9 rests.head (omega (arith, rests.is_head.long))

    old_split : old ≡ rests.head ++ tail_bytes
    old_split = rests.whole ∙ append_assoc rests.head (blocks commits) (rests.gate ∷ rests.rest)

    mid_split : mid ≡ rests.head ++ (tail_bytes ++ area)
    mid_split = mid_is ∙ ap (λ (t : List ℕ). t ++ area) old_split ∙ append_assoc rests.head tail_bytes area

    new_is : new ≡ head_now ++ (tail_bytes ++ area)
    new_is =
        holds
        ∙ ap (λ (t : List ℕ). t ++ (eight_bytes ++ drop (9 + length eight_bytes) mid)) (ap (take 9) mid_split ∙ take-append-le 9 rests.head (tail_bytes ++ area) (omega (arith, rests.is_head.long)))
        ∙ ap (λ (t : List ℕ). take 9 rests.head ++ (eight_bytes ++ t))
        (ap (λ (n : ℕ). drop (9 + n) mid) long ∙ ap (drop 17) mid_split ∙ drop_at rests.head (tail_bytes ++ area) 17 rests.is_head.long)
        ∙ sym (append_assoc (take 9 rests.head) eight_bytes (tail_bytes ++ area))

    switch_stays : switch_of head_now ≡ switch_of rests.head
    switch_stays = get_or_append_left (take 9 rests.head) eight_bytes 0 8 (omega (arith, nine_long)) ∙ get_or-take 9 rests.head 8 0 (omega arith)

    head_is : IsHead head_now
    head_is = record {
      long = omega (arith, length-append (take 9 rests.head) eight_bytes, nine_long, long);
      first = take-append-le 8 (take 9 rests.head) eight_bytes (omega (arith, nine_long)) ∙ take-take 8 9 rests.head (omega arith) ∙ rests.is_head.first;
    }

    old_long : length old ≡ 17 + length tail_bytes
    old_long = ap length old_split ∙ length-append rests.head tail_bytes ∙ ap (λ (n : ℕ). n + length tail_bytes) rests.is_head.long

    pub holds_both : IsBoth commits eight_bytes area new
    holds_both = record {
      low = record {
        fits = rests.fits;
        head = head_now;
        is_head = head_is;
        unswitched = λ e. rests.unswitched (sym switch_stays ∙ e);
        gate = rests.gate;
        rest = rests.rest ++ area;
        closed = rests.closed;
        whole = new_is ∙ ap (λ (t : List ℕ). head_now ++ t) (append_assoc (blocks commits) (rests.gate ∷ rests.rest) area) ∙ sym (append_assoc head_now (blocks commits) (rests.gate ∷ (rests.rest ++ area)));
      };
      start = drop_at (take 9 rests.head) eight_bytes 9 nine_long;
      inside = omega (arith, says, old_long, ap length new_is, length-append head_now (tail_bytes ++ area), length-append tail_bytes area, head_is.long);
      behind = omega (arith, says, old_long, length-append (blocks commits) (rests.gate ∷ rests.rest), length-append header (blocks commits));
      high = [];
      is_high =
          ap (λ (n : ℕ). drop n new) (says ∙ old_long) ∙ ap (drop (17 + length tail_bytes)) (new_is ∙ sym (append_assoc head_now tail_bytes area))
          ∙ drop_at (head_now ++ tail_bytes) area (17 + length tail_bytes) (omega (arith, length-append head_now tail_bytes, head_is.long)) ∙ sym (append-nil area);
    }

-- ---- the calls
pub joined : (entries : Standing) (u v w : World) → CompactStep entries u v → CompactStep entries v w → CompactStep entries u w
joined entries u v w one two = record { tree = two.tree ∙ one.tree; store = two.store }

module _ {S : Type 0} (world : S → World) (moment : S → ℕ) (left_since : S → ℕ → World → Type 0) (commits : List (List Change)) (old : S) (rests : Rests world moment left_since commits old) where
  abbrev before : List ℕ
  before = (world old).store

  abbrev step : World → World → Type 0
  step = CompactStep (entries_of commits)

  -- what is written at the end
  end_stands : (n : ℕ) (v w : World) → left_since old (moment old) v → WriteStep (length before) n v w → StandsLow commits before rests.bytes w.store
  end_stands n v w left one =
      grown commits before rests.bytes w.store (drop (length before) w.store)
      (torn_at_end commits before rests.bytes n w.store (subst (λ (s : List ℕ). IsTorn (length before) n s w.store) (rests.durable v left) one.torn))

  -- a call that changes nothing leaves it so
  pub rests_still : (mid : S) → world mid ≡ world old → IsEarlier moment left_since mid → GoesOn moment left_since old mid NoStep → Rests world moment left_since commits mid
  rests_still mid same earlier on = record {
    bytes = subst (λ (w : World). IsAtRest commits w.store) (sym same) rests.bytes;
    durable = still_durable moment left_since old mid (world old) (world mid) earlier on (ap (λ (w : World). w.store) same) rests.durable;
  }

  pub high_goes : (n : ℕ) (mid : S) → GoesOn moment left_since old mid (WriteStep (length before) n) → GoesOn moment left_since old mid step
  high_goes n mid =
      as_step moment left_since old mid (WriteStep (length before) n) step (λ v w left one. record { tree = one.tree; store = low_keeps commits before rests.bytes w.store (end_stands n v w left one) })

  -- what may be left between the two writes, since no sync parts them
  between : (n : ℕ) (mid : S) → IsEarlier moment left_since mid → GoesOn moment left_since old mid (WriteStep (length before) n) → (v : World) → left_since mid (moment mid) v → StandsLow commits before rests.bytes v.store
  between n mid earlier on v left =
      ⊎_elim (λ was. grown commits before rests.bytes v.store [] (rests.durable v was ∙ sym (append-nil before))) (λ from. end_stands n from.0 v from.1 from.2)
      (on.since (moment old) v (omega arith) (earlier (moment old) (moment mid) v on.later left))

  pub start_goes : (n : ℕ) (mid new : S) → IsEarlier moment left_since mid → GoesOn moment left_since old mid (WriteStep (length before) n) → GoesOn moment left_since mid new (WriteStep 9 8) → GoesOn moment left_since old new step
  start_goes n mid new earlier first second =
      then_on moment left_since old mid new step earlier (joined (entries_of commits)) (high_goes n mid first)
      (as_step moment left_since mid new (WriteStep 9 8) step (λ v w left one.
      let low = between n mid earlier first v left in
      let long : 17 ≤ length v.store = omega (arith, ap length low.whole, length-append low.head (blocks commits ++ rests.bytes.gate ∷ (rests.bytes.rest ++ low.more)), low.is_head.long) in
      record { tree = one.tree; store = low_keeps commits before rests.bytes w.store (new_start commits before rests.bytes w.store v.store low one.torn long) }) second)

-- the switch is opened
module _ {S : Type 0} (world : S → World) (moment : S → ℕ) (left_since : S → ℕ → World → Type 0) (commits : List (List Change)) (nine area : List ℕ) (mid : S) (holds : HoldsBoth world moment left_since commits nine area mid) (is : area ≡ compact_area (entries_of commits))
    (small : live_size (entries_of commits) ≤ most_live) where
  pub switch_goes : (new : S) → GoesOn moment left_since mid new (WriteStep 8 1) → GoesOn moment left_since mid new (CompactStep (entries_of commits))
  switch_goes new =
      as_step moment left_since mid new (WriteStep 8 1) (CompactStep (entries_of commits)) (λ v w left one. record {
        tree = one.tree;
        store =
            switch_keeps commits nine area (world mid).store holds.bytes is small w.store
            (subst (λ (s : List ℕ). IsTorn 8 1 s w.store) (holds.durable v left) one.torn);
      })

  -- what is being compacted then
  abbrev pub switches : (new : S) → Holds (world mid).store 8 (1 ∷ []) (world new).store → PinsStore (left_since new (moment new)) (world new) → Switches world moment left_since (compacted (entries_of commits)) area new
  switches new written pins = record {
    high = switched_high commits nine area (world mid).store holds.bytes is small (world new).store written;
    is_area = is ∙ ap (λ (cs : List (List Change)). blocks cs ++ 0 ∷ []) (sym (compacted_again (entries_of commits) (commits_ascending commits)));
    durable = pins;
  }

-- what finishes keeps the same keys and values
pub finish_keeps : (commits : List (List Change)) (before : List ℕ) (v w : World) → IsHigh before (compacted (entries_of commits)) → FinishStep before v w → CompactStep (entries_of commits) v w
finish_keeps commits before v w high one =
    let f = one.store in
    let same : f.commits ≡ compacted (entries_of commits) = area_one (high_area high.head high.low) f.commits (compacted (entries_of commits)) (high_as before high.head high.low high.parts f.commits f.high).2 high.area in
    let again : compacted (entries_of f.commits) ≡ compacted (entries_of commits) = ap (λ (cs : List (List Change)). compacted (entries_of cs)) same ∙ compacted_again (entries_of commits) (commits_ascending commits) in
    record {
      tree = one.tree;
      store = (
        entries_of (compacted (entries_of commits)),
        (compacted (entries_of commits), subst (IsStore w.store) again (finishing_store before w.store f), refl),
        compacted_values (entries_of commits) (commits_ascending commits),
      );
    }

-- where compacting ends
pub ends_compact_so : (commits : List (List Change)) (nine bytes : List ℕ) (mid : List ℕ) (low : List ℕ) (head : List ℕ) → IsHead head → mid ≡ head ++ low → drop 9 head ≡ nine → bytes ≡ compacted_store (take 8 (drop 9 mid)) (entries_of (compacted (entries_of commits))) → bytes ≡ compacted_store nine (entries_of commits)
ends_compact_so commits nine bytes mid low head is_head whole start is =
    let behind : drop 9 mid ≡ nine ++ low = ap (drop 9) whole ∙ drop-append-le 9 head low (omega (arith, is_head.long)) ∙ ap (λ (t : List ℕ). t ++ low) start in
    let long : length nine ≡ 8 = ap length (sym start) ∙ length-drop 9 head ∙ ap (λ (n : ℕ). n - 9) is_head.long in
    let eight_are : take 8 (drop 9 mid) ≡ nine = ap (take 8) behind ∙ take_at nine low 8 long in
    let again : compact_area (entries_of (compacted (entries_of commits))) ≡ compact_area (entries_of commits) = ap (λ (cs : List (List Change)). blocks cs ++ 0 ∷ []) (compacted_again (entries_of commits) (commits_ascending commits)) in
    is ∙ ap (λ (t : List ℕ). first_bytes ++ 0 ∷ (t ++ compact_area (entries_of (compacted (entries_of commits))))) eight_are ∙ ap (λ (t : List ℕ). first_bytes ++ 0 ∷ (nine ++ t)) again
