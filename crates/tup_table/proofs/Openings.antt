-- What opening a store leaves whose switch is open.
use Rattle.std.proofs.Common.{◌≡◌, ◌≢◌, ◌⊎◌, ℕ, ◌+◌, ◌-◌, ◌≤◌, List, [], ◌∷◌, ◌++◌, length, take, drop, refl, sym, ap, subst, ◌∙◌, append_assoc, length-append, length-take-le, take-append-drop, arith, inl, inr}
use Rattle.std.proofs.lemmas.List.{take_at, drop_at, append_cancel_left}
use Rattle.byteorder.specs.Endian.{big_number}
use Rattle.tup_site.specs.Crash.{GoesOn, PinsStore}
use Rattle.tup_site.specs.World.{World}
use Rattle.tup_table.specs.Compact.{compacted, compact_area}
use Rattle.tup_table.specs.Entries.{entries_of}
use Rattle.tup_table.specs.Images.{IsFinishing, FinishStep, OpenStep, EndStep, MayClose, MayCloseHigh, closed_end}
use Rattle.tup_table.specs.Spelling.{blocks}
use Rattle.tup_table.specs.Store.{start_of, high_area, switch_of, HasRoomBelow, IsEnd, IsHigh, IsLow, IsStore}
use Rattle.tup_table.specs.Table.{Switches}
use Rattle.tup_table.specs.declared.change.Change.{Change}
use Rattle.tup_table.proofs.Compact.{entries_fit, compacted_fit}
use Rattle.tup_table.proofs.Ends.{close_then, closed_closes}
use Rattle.tup_table.proofs.Going.{IsEarlier, as_step, then_on}
use Rattle.tup_table.proofs.Stores.{parts_one, area_one, high_as}
use Rattle.tup_table.proofs.Torn.{still_end}

-- ---- the end of the high area
module _ (bytes : List ℕ) (commits : List (List Change)) (high : IsHigh bytes commits) (end : ℕ) (is : end ≡ start_of high.head + length (blocks commits)) where
  abbrev below : ℕ
  below = start_of high.head - 17

  abbrev rest : List ℕ
  rest = high.area.0

  below_long : length (take below high.low) ≡ below
  below_long = length-take-le below high.low (omega (arith, high.start.inside, high.start.behind))

  low_is : high.low ≡ take below high.low ++ (blocks commits ++ rest)
  low_is = sym (take-append-drop below high.low) ∙ ap (λ (t : List ℕ). take below high.low ++ t) high.area.1.whole

  abbrev shown : List ℕ
  shown = high.head ++ (take below high.low ++ blocks commits)

  split : bytes ≡ shown ++ rest
  split =
      high.parts.whole ∙ ap (λ (t : List ℕ). high.head ++ t) (low_is ∙ sym (append_assoc (take below high.low) (blocks commits) rest))
      ∙ sym (append_assoc high.head (take below high.low ++ blocks commits) rest)

  ends : length shown ≡ end
  ends =
      omega (arith, length-append high.head (take below high.low ++ blocks commits), length-append (take below high.low) (blocks commits), below_long, high.parts.is_head.long, high.start.behind, is)

  front_is : take end bytes ≡ shown
  front_is = ap (take end) split ∙ take_at shown rest end ends

  rest_is : drop end bytes ≡ rest
  rest_is = ap (drop end) split ∙ drop_at shown rest end ends

  pub high_inside : end ≤ length bytes
  high_inside = omega (arith, ap length split, length-append shown rest, ends)

  pub high_ends : IsEnd (drop end bytes)
  high_ends = subst IsEnd (sym rest_is) high.area.2

  module _ (after left : List ℕ) (closes : MayClose (drop end bytes) left) (there : after ≡ take end bytes ++ left) where
    abbrev low_after : List ℕ
    low_after = take below high.low ++ (blocks commits ++ left)

    pub after_is : after ≡ high.head ++ low_after
    after_is =
        there ∙ ap (λ (t : List ℕ). t ++ left) front_is ∙ append_assoc high.head (take below high.low ++ blocks commits) left
        ∙ ap (λ (t : List ℕ). high.head ++ t) (append_assoc (take below high.low) (blocks commits) left)

    pub area_after : high_area high.head low_after ≡ blocks commits ++ left
    area_after = drop_at (take below high.low) (blocks commits ++ left) below below_long

    pub inside_after : start_of high.head ≤ 17 + length low_after
    inside_after = omega (arith, length-append (take below high.low) (blocks commits ++ left), below_long, high.start.behind)

    pub still_closes : MayClose rest left
    still_closes = subst (λ (t : List ℕ). MayClose t left) rest_is closes

    abbrev pub high_after : IsHigh after commits
    high_after = record {
      head = high.head;
      low = low_after;
      parts = record { is_head = high.parts.is_head; whole = after_is };
      switched = high.switched;
      start = record { behind = high.start.behind; inside = inside_after };
      area = (left, record { fits = high.area.1.fits; whole = area_after }, still_end rest left high.area.2 still_closes);
      room = high.room;
    }

    pub end_finishing : IsFinishing bytes after
    end_finishing = record {
      commits = commits;
      high = high;
      head = high.head;
      low = low_after;
      parts = record { is_head = high.parts.is_head; whole = after_is };
      start = refl;
      area = inl (high.switched, inside_after, (rest, left, high.area.1.whole, still_closes, area_after));
    }

-- ---- what finishes compacting leaves is a store of the same commit
abbrev pub finishing_high : (before w : List ℕ) (f : IsFinishing before w) → switch_of f.head ≡ 1 → start_of f.high.head ≤ 17 + length f.low → MayCloseHigh f.commits (high_area f.high.head f.high.low) (high_area f.head f.low) → IsHigh w f.commits
finishing_high before w f switched inside closes =
    let same : start_of f.head ≡ start_of f.high.head = ap (big_number 8) f.start in
    let first : closes.0 ≡ f.high.area.0 = append_cancel_left (blocks f.commits) closes.0 f.high.area.0 (sym closes.2 ∙ f.high.area.1.whole) in
    record {
      head = f.head;
      low = f.low;
      parts = f.parts;
      switched = switched;
      start = record { behind = subst (λ (n : ℕ). 18 ≤ n) (sym same) f.high.start.behind; inside = subst (λ (n : ℕ). n ≤ 17 + length f.low) (sym same) inside };
      area = (closes.1, record { fits = f.high.area.1.fits; whole = closes.4 }, still_end closes.0 closes.1 (subst IsEnd (sym first) f.high.area.2) closes.3);
      room = subst (λ (n : ℕ). HasRoomBelow n f.commits) (sym same) f.high.room;
    }

abbrev pub finishing_low : (before w : List ℕ) (f : IsFinishing before w) → switch_of f.head ≢ 1 → (rest : List ℕ) → f.low ≡ compact_area (entries_of f.commits) ++ rest → IsLow w (compacted (entries_of f.commits))
finishing_low before w f closed rest is = record {
  head = f.head;
  low = f.low;
  parts = f.parts;
  closed = closed;
  area = (
    0 ∷ rest,
    record {
      fits = compacted_fit (entries_of f.commits) (entries_fit f.commits f.high.area.1.fits) f.high.room.small;
      whole = is ∙ append_assoc (blocks (compacted (entries_of f.commits))) (0 ∷ []) rest;
    },
    inl (λ e. omega (arith, e)),
  );
}

pub finishing_store : (before w : List ℕ) (f : IsFinishing before w) → IsStore w (compacted (entries_of f.commits))
finishing_store before w f = by f.area
  where
    by : ((switch_of f.head ≡ 1) × (start_of f.high.head ≤ 17 + length f.low) × MayCloseHigh f.commits (high_area f.high.head f.high.low) (high_area f.head f.low))
        ⊎ ((closed : switch_of f.head ≢ 1) × (rest : List ℕ) × (f.low ≡ compact_area (entries_of f.commits) ++ rest)) → IsStore w (compacted (entries_of f.commits))
    by (inl still) = inr (f.commits, finishing_high before w f still.0 still.1 still.2, refl)
    by (inr closed) = inl (finishing_low before w f closed.0 closed.1 closed.2)

-- so it is a step of an opening
pub finish_opens : (bytes : List ℕ) (v w : World) → v.store ≡ bytes → FinishStep bytes v w → OpenStep v w
finish_opens bytes v w was step =
    let f = step.store in
    let entries = entries_of (compacted (entries_of f.commits)) in
    record {
      tree = step.tree;
      entries = entries;
      before = (compacted (entries_of f.commits), inr (f.commits, subst (λ (s : List ℕ). IsHigh s f.commits) (sym was) f.high, refl), refl);
      after = (compacted (entries_of f.commits), finishing_store bytes w.store f, refl);
      end = inr (subst (λ (s : List ℕ). IsFinishing s w.store) (sym was) f);
    }

-- ---- what finishes compacting goes on from a store whose high area was closed
module _ (bytes : List ℕ) (commits : List (List Change)) (high : IsHigh bytes commits) (end : ℕ) (is : end ≡ start_of high.head + length (blocks commits)) (mid left : List ℕ) (closes : MayClose (drop end bytes) left) (there : mid ≡ take end bytes ++ left) where
  abbrev anew : IsHigh mid commits
  anew = high_after bytes commits high end is mid left closes there

  first_closes : MayClose high.area.0 left
  first_closes = still_closes bytes commits high end is mid left closes there

  pub finishing_from : (w : List ℕ) → IsFinishing mid w → IsFinishing bytes w
  finishing_from w f = record {
    commits = commits;
    high = high;
    head = f.head;
    low = f.low;
    parts = f.parts;
    start = f.start ∙ ap (drop 9) heads.0;
    area = by f.area;
  }
    where
      heads : (f.high.head ≡ anew.head) × (f.high.low ≡ anew.low)
      heads = parts_one mid f.high.head f.high.low anew.head anew.low f.high.parts anew.parts

      same : f.commits ≡ commits
      same = area_one (high_area anew.head anew.low) f.commits commits (high_as mid anew.head anew.low anew.parts f.commits f.high).2 anew.area

      areas : high_area f.high.head f.high.low ≡ blocks commits ++ left
      areas = ap (λ (h : List ℕ). high_area h f.high.low) heads.0 ∙ ap (high_area anew.head) heads.1 ∙ anew.area.1.whole

      by : ((switch_of f.head ≡ 1) × (start_of f.high.head ≤ 17 + length f.low) × MayCloseHigh f.commits (high_area f.high.head f.high.low) (high_area f.head f.low))
          ⊎ ((closed : switch_of f.head ≢ 1) × (rest : List ℕ) × (f.low ≡ compact_area (entries_of f.commits) ++ rest))
          → ((switch_of f.head ≡ 1) × (start_of high.head ≤ 17 + length f.low) × MayCloseHigh commits (high_area high.head high.low) (high_area f.head f.low))
          ⊎ ((closed : switch_of f.head ≢ 1) × (rest : List ℕ) × (f.low ≡ compact_area (entries_of commits) ++ rest))
      by (inl (switched, inside, (rest1, left1, before1, closes1, after1))) =
          let front = ap (λ (cs : List (List Change)). blocks cs ++ rest1) (sym same) ∙ sym before1 ∙ areas in
          let joins : rest1 ≡ left = append_cancel_left (blocks commits) rest1 left front in
          inl (
            switched,
            subst (λ (h : List ℕ). start_of h ≤ 17 + length f.low) heads.0 inside,
            (high.area.0, left1, high.area.1.whole, close_then high.area.0 left left1 first_closes (subst (λ (t : List ℕ). MayClose t left1) joins closes1), after1 ∙ ap (λ (cs : List (List Change)). blocks cs ++ left1) same),
          )
      by (inr (closed, rest1, low1)) = inr (closed, rest1, low1 ∙ ap (λ (cs : List (List Change)). compact_area (entries_of cs) ++ rest1) same)

-- ---- the calls
joined : (bytes : List ℕ) (u v w : World) → FinishStep bytes u v → FinishStep bytes v w → FinishStep bytes u w
joined bytes u v w one two = record { tree = two.tree ∙ one.tree; store = two.store }

module _ {S : Type 0} (world : S → World) (moment : S → ℕ) (left_since : S → ℕ → World → Type 0) (bytes : List ℕ) (commits : List (List Change)) (high : IsHigh bytes commits) (end : ℕ) (is : end ≡ start_of high.head + length (blocks commits))
    (old : S) (here : (world old).store ≡ bytes) (durable : PinsStore (left_since old (moment old)) (world old)) where
  -- the end of the high area is closed
  close_goes : (mid : S) → GoesOn moment left_since old mid (EndStep end bytes) → GoesOn moment left_since old mid (FinishStep bytes)
  close_goes mid =
      as_step moment left_since old mid (EndStep end bytes) (FinishStep bytes) (λ v w left one. record {
        tree = one.tree;
        store = end_finishing bytes commits high end is w.store one.left one.closes one.whole;
      })

  opens : (new : S) → GoesOn moment left_since old new (FinishStep bytes) → GoesOn moment left_since old new OpenStep
  opens new = as_step moment left_since old new (FinishStep bytes) OpenStep (λ v w left one. finish_opens bytes v w (durable v left ∙ here) one)

  pub close_opens : (mid : S) → GoesOn moment left_since old mid (EndStep end bytes) → GoesOn moment left_since old mid OpenStep
  close_opens mid on = opens mid (close_goes mid on)

  -- compacting is finished
  module _ (mid : S) (closed : (world mid).store ≡ take end bytes ++ closed_end (drop end bytes)) where
    pub closes : MayClose (drop end bytes) (closed_end (drop end bytes))
    closes = closed_closes (drop end bytes) (high_ends bytes commits high end is)

    abbrev pub switches_on : (area : List ℕ) → area ≡ compact_area (entries_of commits) → PinsStore (left_since mid (moment mid)) (world mid) → Switches world moment left_since commits area mid
    switches_on area area_is pins = record { high = high_after bytes commits high end is (world mid).store (closed_end (drop end bytes)) closes closed; is_area = area_is; durable = pins }

    pub finish_opens_so : (new : S) → IsEarlier moment left_since mid → GoesOn moment left_since old mid (EndStep end bytes) → GoesOn moment left_since mid new (FinishStep (world mid).store) → GoesOn moment left_since old new OpenStep
    finish_opens_so new earlier first second =
        opens new
        (then_on moment left_since old mid new (FinishStep bytes) earlier (joined bytes) (close_goes mid first)
        (as_step moment left_since mid new (FinishStep (world mid).store) (FinishStep bytes) (λ v w left one. record {
          tree = one.tree;
          store = finishing_from bytes commits high end is (world mid).store (closed_end (drop end bytes)) closes closed w.store one.store;
        }) second))
