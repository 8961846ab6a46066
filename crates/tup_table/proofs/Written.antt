-- What one opening behind another writes.
use Rattle.std.proofs.Common.{◌≡◌, ◌≢◌, ◌⊎◌, ℕ, ◌+◌, ◌≤◌, List, [], ◌∷◌, ◌++◌, length, take, drop, refl, sym, ap, subst, ◌∙◌, take-append-drop, arith, inl, inr}
use Rattle.std.proofs.lemmas.List.{append_cancel_left}
use Rattle.byteorder.specs.Endian.{big_number}
use Rattle.tup_table.specs.Compact.{compacted, compact_area}
use Rattle.tup_table.specs.Entries.{entries_of}
use Rattle.tup_table.specs.Images.{IsClosing, IsFinishing, IsEndWritten, MayClose, MayCloseHigh}
use Rattle.tup_table.specs.Spelling.{blocks}
use Rattle.tup_table.specs.Store.{header, start_of, high_area, switch_of, IsLow, IsHigh}
use Rattle.tup_table.specs.declared.change.Change.{Change}
use Rattle.tup_table.proofs.Apart.{heads}
use Rattle.tup_table.proofs.Ends.{with_end, end_stays, front_is, rest_is, close_then}
use Rattle.tup_table.proofs.Openings.{finishing_high, finishing_low}
use Rattle.tup_table.proofs.Stores.{parts_one, area_one, low_as, high_as}

-- a closed gate stays
closed_stays : (rest left : List ℕ) → MayClose (0 ∷ rest) left → left ≡ 0 ∷ rest
closed_stays rest left (inl same) = same
closed_stays rest left (inr (inl none, one)) = absurd (cc)
closed_stays rest left (inr (inr lacks, one)) = absurd (let no : 0 ≡ 1 = heads 0 1 rest [] lacks in omega (arith, no))

-- the switch is closed in one way only
not_both : (bytes : List ℕ) (cs ds : List (List Change)) → IsLow bytes cs → IsHigh bytes ds → ⊥
not_both bytes cs ds low high = low.closed (high_as bytes low.head low.low low.parts ds high).0

-- ---- two closings
closing_then : (first mid last : List ℕ) → IsClosing first mid → IsClosing mid last → IsClosing first last
closing_then first mid last one two =
    let g = length (header ++ blocks one.commits) in
    let stays = end_stays one.commits first one.low g refl one.left one.closes in
    let low = with_end one.commits first one.low g refl mid one.left stays one.whole in
    let same : two.commits ≡ one.commits = area_one low.low two.commits one.commits (low_as mid low.head low.low low.parts two.commits two.low).1 low.area in
    let at : length (header ++ blocks two.commits) ≡ g = ap (λ (cs : List (List Change)). length (header ++ blocks cs)) same in
    let end : drop (length (header ++ blocks two.commits)) mid ≡ one.left = ap (λ (n : ℕ). drop n mid) at ∙ rest_is one.commits mid low g refl in
    let front : take (length (header ++ blocks two.commits)) mid ≡ take g first = ap (λ (n : ℕ). take n mid) at ∙ front_is one.commits mid low g refl ∙ sym (front_is one.commits first one.low g refl) in
    record {
      commits = one.commits;
      low = one.low;
      left = two.left;
      closes = close_then (drop g first) one.left two.left one.closes (subst (λ (t : List ℕ). MayClose t two.left) end two.closes);
      whole = two.whole ∙ ap (λ (t : List ℕ). t ++ two.left) front;
    }

-- ---- compacting was finished, and then closed
finished_closed : (first mid last : List ℕ) (one : IsFinishing first mid) → IsLow mid (compacted (entries_of one.commits)) → (rest : List ℕ) → drop (length (header ++ blocks (compacted (entries_of one.commits)))) mid ≡ 0 ∷ rest → (two : IsClosing mid last)
    → two.commits ≡ compacted (entries_of one.commits) → IsFinishing first last
finished_closed first mid last one low rest end two same =
    let at : length (header ++ blocks two.commits) ≡ length (header ++ blocks (compacted (entries_of one.commits))) = ap (λ (cs : List (List Change)). length (header ++ blocks cs)) same in
    let there : drop (length (header ++ blocks two.commits)) mid ≡ 0 ∷ rest = ap (λ (n : ℕ). drop n mid) at ∙ end in
    let left_is : two.left ≡ drop (length (header ++ blocks two.commits)) mid = closed_stays rest two.left (subst (λ (t : List ℕ). MayClose t two.left) there two.closes) ∙ sym there in
    let unchanged : last ≡ mid = two.whole ∙ ap (λ (t : List ℕ). take (length (header ++ blocks two.commits)) mid ++ t) left_is ∙ take-append-drop (length (header ++ blocks two.commits)) mid in
    subst (IsFinishing first) (sym unchanged) one

-- ---- compacting went on
module _ (first mid last : List ℕ) (one : IsFinishing first mid) (switched : switch_of one.head ≡ 1) (inside : start_of one.high.head ≤ 17 + length one.low) (closes : MayCloseHigh one.commits (high_area one.high.head one.high.low) (high_area one.head one.low)) (two : IsFinishing mid last) where
  abbrev anew : IsHigh mid one.commits
  anew = finishing_high first mid one switched inside closes

  heads_are : (two.high.head ≡ one.head) × (two.high.low ≡ one.low)
  heads_are = parts_one mid two.high.head two.high.low one.head one.low two.high.parts one.parts

  same : two.commits ≡ one.commits
  same = area_one (high_area one.head one.low) two.commits one.commits (high_as mid one.head one.low one.parts two.commits two.high).2 anew.area

  start_same : start_of two.high.head ≡ start_of one.high.head
  start_same = ap start_of heads_are.0 ∙ ap (big_number 8) one.start

  areas : high_area two.high.head two.high.low ≡ blocks one.commits ++ closes.1
  areas = ap (λ (h : List ℕ). high_area h two.high.low) heads_are.0 ∙ ap (high_area one.head) heads_are.1 ∙ closes.4

  went_on : ((switch_of two.head ≡ 1) × (start_of two.high.head ≤ 17 + length two.low) × MayCloseHigh two.commits (high_area two.high.head two.high.low) (high_area two.head two.low))
      ⊎ ((closed : switch_of two.head ≢ 1) × (rest : List ℕ) × (two.low ≡ compact_area (entries_of two.commits) ++ rest))
      → ((switch_of two.head ≡ 1) × (start_of one.high.head ≤ 17 + length two.low) × MayCloseHigh one.commits (high_area one.high.head one.high.low) (high_area two.head two.low))
      ⊎ ((closed : switch_of two.head ≢ 1) × (rest : List ℕ) × (two.low ≡ compact_area (entries_of one.commits) ++ rest))
  went_on (inl (still, there, (rest1, left1, before1, closes1, after1))) =
      let front = ap (λ (cs : List (List Change)). blocks cs ++ rest1) (sym same) ∙ sym before1 ∙ areas in
      let joins : rest1 ≡ closes.1 = append_cancel_left (blocks one.commits) rest1 closes.1 front in
      inl (
        still,
        subst (λ (n : ℕ). n ≤ 17 + length two.low) start_same there,
        (closes.0, left1, closes.2, close_then closes.0 closes.1 left1 closes.3 (subst (λ (t : List ℕ). MayClose t left1) joins closes1), after1 ∙ ap (λ (cs : List (List Change)). blocks cs ++ left1) same),
      )
  went_on (inr (closed, rest1, low1)) = inr (closed, rest1, low1 ∙ ap (λ (cs : List (List Change)). compact_area (entries_of cs) ++ rest1) same)

  pub finishing_then : IsFinishing first last
  finishing_then = record {
    commits = one.commits;
    high = one.high;
    head = two.head;
    low = two.low;
    parts = two.parts;
    start = two.start ∙ ap (drop 9) heads_are.0 ∙ one.start;
    area = went_on two.area;
  }

-- ---- one opening behind another writes what one may write
pub written_then : (first mid last : List ℕ) → IsEndWritten first mid → IsEndWritten mid last → IsEndWritten first last
written_then first mid last (inl one) (inl two) = inl (closing_then first mid last one two)
written_then first mid last (inl one) (inr two) =
    let g = length (header ++ blocks one.commits) in
    let low = with_end one.commits first one.low g refl mid one.left (end_stays one.commits first one.low g refl one.left one.closes) one.whole in
    absurd (not_both mid one.commits two.commits low two.high)
written_then first mid last (inr one) (inl two) = by one.area
  where
    by : ((switch_of one.head ≡ 1) × (start_of one.high.head ≤ 17 + length one.low) × MayCloseHigh one.commits (high_area one.high.head one.high.low) (high_area one.head one.low))
        ⊎ ((closed : switch_of one.head ≢ 1) × (rest : List ℕ) × (one.low ≡ compact_area (entries_of one.commits) ++ rest)) → IsEndWritten first last
    by (inl (switched, inside, closes)) = absurd (not_both mid two.commits one.commits two.low (finishing_high first mid one switched inside closes))
    by (inr (closed, rest, is)) =
        let low = finishing_low first mid one closed rest is in
        let same = area_one low.low two.commits (compacted (entries_of one.commits)) (low_as mid low.head low.low low.parts two.commits two.low).1 low.area in
        inr (finished_closed first mid last one low rest (rest_is (compacted (entries_of one.commits)) mid low (length (header ++ blocks (compacted (entries_of one.commits)))) refl) two same)
written_then first mid last (inr one) (inr two) = by one.area
  where
    by : ((switch_of one.head ≡ 1) × (start_of one.high.head ≤ 17 + length one.low) × MayCloseHigh one.commits (high_area one.high.head one.high.low) (high_area one.head one.low))
        ⊎ ((closed : switch_of one.head ≢ 1) × (rest : List ℕ) × (one.low ≡ compact_area (entries_of one.commits) ++ rest)) → IsEndWritten first last
    by (inl (switched, inside, closes)) = inr (finishing_then first mid last one switched inside closes two)
    by (inr (closed, rest, is)) = absurd (not_both mid (compacted (entries_of one.commits)) two.commits (finishing_low first mid one closed rest is) two.high)
