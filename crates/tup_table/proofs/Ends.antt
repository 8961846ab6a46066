-- How the end of a store is closed, and what a crash leaves of it.
use Rattle.std.proofs.Common.{◌≡◌, ◌≢◌, ◌⊎◌, ℕ, zero, suc, ◌≤◌, ◌==◌, List, [], ◌∷◌, ◌++◌, length, take, drop, refl, sym, ap, subst, ◌∙◌, append_assoc, length-append, take-append-drop, length-take-le, arith, tests, inl, inr, ⊎_elim}
use Rattle.std.specs.Prelude.{if◌then◌else◌}
use Rattle.std.proofs.lemmas.List.{take_at, drop_at}
use Rattle.tup_site.specs.Crash.{GoesOn, NoStep, WriteStep, PinsStore}
use Rattle.tup_site.specs.Store.{Holds, IsTorn}
use Rattle.tup_site.specs.World.{World}
use Rattle.tup_table.specs.Entries.{entries_of}
use Rattle.tup_table.specs.Images.{OpenStep, EndStep, IsClosing, IsEndWritten, LacksGate, MayClose, closed_end}
use Rattle.tup_table.specs.Reading.{opened_of}
use Rattle.tup_table.specs.Spelling.{blocks}
use Rattle.tup_table.specs.Store.{IsLow, IsEnd}
use Rattle.tup_table.specs.Table.{IsAtRest}
use Rattle.tup_table.specs.declared.change.Change.{Change}
use Rattle.tup_table.proofs.Going.{IsEarlier, as_step, nothing_then}
use Rattle.tup_table.proofs.Torn.{still_end, torn_closes, torn_end, written_end}

-- ---- a closed end
closed_gate : (gate : ℕ) → gate ≢ 1 → (if gate == 1 then 0 else gate) ≡ gate
closed_gate gate other = grind (arith, tests)

closed_not : (gate : ℕ) → (if gate == 1 then 0 else gate) ≢ 1
closed_not gate = grind (arith, tests)

pub closed_already : (rest : List ℕ) → IsEnd rest → rest ≢ [] → rest ≢ 1 ∷ [] → closed_end rest ≡ rest
closed_already [] ends some one = absurd (some refl)
closed_already (gate ∷ rest) (inl other) some one = ap (λ (g : ℕ). g ∷ rest) (closed_gate gate other)
closed_already (gate ∷ rest) (inr none) some one =
    ap (λ (g : ℕ). g ∷ rest) (closed_gate gate (λ e. one (ap (λ (g : ℕ). g ∷ rest) e ∙ ap (λ (t : List ℕ). 1 ∷ t) none)))

-- ---- an end that lacks one
lacking_short : (rest : List ℕ) → LacksGate rest → length rest ≤ 1
lacking_short rest (inl none) = omega (arith, ap length none)
lacking_short rest (inr one) = omega (arith, ap length one)

lacking_closed : (rest : List ℕ) → LacksGate rest → closed_end rest ≡ 0 ∷ []
lacking_closed rest (inl none) = ap closed_end none
lacking_closed rest (inr one) = ap closed_end one

-- ---- the end behind a place
module _ (gate : ℕ) (bytes : List ℕ) (inside : gate ≤ length bytes) where
  whole : bytes ≡ take gate bytes ++ drop gate bytes
  whole = sym (take-append-drop gate bytes)

  pub as_it_was : (new : List ℕ) → IsEnd (drop gate bytes) → ¬ LacksGate (drop gate bytes) → new ≡ bytes → new ≡ take gate bytes ++ closed_end (drop gate bytes)
  as_it_was new ends not same = same ∙ whole ∙ ap (λ (t : List ℕ). take gate bytes ++ t) (sym (closed_already (drop gate bytes) ends (λ e. not (inl e)) (λ e. not (inr e))))

  -- nothing is written
  pub no_step : (v : World) → v.store ≡ bytes → EndStep gate bytes v v
  no_step v is = record { tree = refl; left = drop gate bytes; closes = inl refl; whole = is ∙ whole }

  module _ (lacks : LacksGate (drop gate bytes)) where
    short : length (drop gate bytes) ≤ 1
    short = lacking_short (drop gate bytes) lacks

    pub end_step : (v w : World) → v.store ≡ bytes → WriteStep gate 1 v w → EndStep gate bytes v w
    end_step v w is step =
        let torn : IsTorn gate 1 (take gate bytes ++ drop gate bytes) w.store = subst (λ (s : List ℕ). IsTorn gate 1 s w.store) (is ∙ whole) step.torn in
        let ends = length-take-le gate bytes inside in
        record {
          tree = step.tree;
          left = drop gate w.store;
          closes = torn_closes (take gate bytes) gate ends (drop gate bytes) w.store lacks short torn;
          whole = torn_end (take gate bytes) gate ends (drop gate bytes) w.store short torn;
        }

    pub end_closed : (new : List ℕ) → Holds bytes gate (0 ∷ []) new → new ≡ take gate bytes ++ closed_end (drop gate bytes)
    end_closed new holds =
        written_end (take gate bytes) gate (length-take-le gate bytes inside) (drop gate bytes) 0 new short (subst (λ (s : List ℕ). Holds s gate (0 ∷ []) new) whole holds)
        ∙ ap (λ (t : List ℕ). take gate bytes ++ t) (sym (lacking_closed (drop gate bytes) lacks))

-- ---- the end of the low area
module _ (commits : List (List Change)) (bytes : List ℕ) (low : IsLow bytes commits) (gate : ℕ) (is : gate ≡ (opened_of commits).gate) where
  abbrev shown : List ℕ
  shown = low.head ++ blocks commits

  ends : length shown ≡ gate
  ends = omega (arith, length-append low.head (blocks commits), low.parts.is_head.long, is)

  split : bytes ≡ shown ++ low.area.0
  split = low.parts.whole ∙ ap (λ (t : List ℕ). low.head ++ t) low.area.1.whole ∙ sym (append_assoc low.head (blocks commits) low.area.0)

  pub front_is : take gate bytes ≡ shown
  front_is = ap (take gate) split ∙ take_at shown low.area.0 gate ends

  pub rest_is : drop gate bytes ≡ low.area.0
  rest_is = ap (drop gate) split ∙ drop_at shown low.area.0 gate ends

  pub low_inside : gate ≤ length bytes
  low_inside = omega (arith, ap length split, length-append shown low.area.0, ends)

  pub low_ends : IsEnd (drop gate bytes)
  low_ends = subst IsEnd (sym rest_is) low.area.2

  pub end_stays : (left : List ℕ) → MayClose (drop gate bytes) left → IsEnd left
  end_stays left closes = still_end (drop gate bytes) left low_ends closes

  -- another end
  abbrev pub with_end : (after left : List ℕ) → IsEnd left → after ≡ take gate bytes ++ left → IsLow after commits
  with_end after left end there = record {
    head = low.head;
    low = blocks commits ++ left;
    parts = record { is_head = low.parts.is_head; whole = there ∙ ap (λ (t : List ℕ). t ++ left) front_is ∙ append_assoc low.head (blocks commits) left };
    closed = low.closed;
    area = (left, record { fits = low.area.1.fits; whole = refl }, end);
  }

  closing : (after left : List ℕ) → MayClose (drop gate bytes) left → after ≡ take gate bytes ++ left → IsClosing bytes after
  closing after left closes there = record {
    commits = commits;
    low = low;
    left = left;
    closes = subst (λ (n : ℕ). MayClose (drop n bytes) left) is closes;
    whole = there ∙ ap (λ (n : ℕ). take n bytes ++ left) is;
  }

  pub open_step : (v w : World) → v.store ≡ bytes → EndStep gate bytes v w → OpenStep v w
  open_step v w was step = record {
    tree = step.tree;
    entries = entries_of commits;
    before = (commits, inl (subst (λ (s : List ℕ). IsLow s commits) (sym was) low), refl);
    after = (commits, inl (with_end w.store step.left (end_stays step.left step.closes) step.whole), refl);
    end = inl (subst (λ (s : List ℕ). IsClosing s w.store) (sym was) (closing w.store step.left step.closes step.whole));
  }

  at_rest_by : (new rest : List ℕ) → new ≡ shown ++ closed_end rest → IsAtRest commits new
  at_rest_by new [] whole = record { fits = low.area.1.fits; head = low.head; is_head = low.parts.is_head; unswitched = low.closed; gate = 0; rest = []; closed = λ e. omega (arith, e); whole = whole }
  at_rest_by new (g ∷ rest) whole =
      record { fits = low.area.1.fits; head = low.head; is_head = low.parts.is_head; unswitched = low.closed; gate = if g == 1 then 0 else g; rest = rest; closed = closed_not g; whole = whole }

  pub at_rest : (new : List ℕ) → new ≡ take gate bytes ++ closed_end (drop gate bytes) → IsAtRest commits new
  at_rest new closed = at_rest_by new (drop gate bytes) (closed ∙ ap (λ (t : List ℕ). t ++ closed_end (drop gate bytes)) front_is)

-- ---- ends that are written one after another
pub close_then : (rest mid left : List ℕ) → MayClose rest mid → MayClose mid left → MayClose rest left
close_then rest mid left (inl same) next = subst (λ (t : List ℕ). MayClose t left) same next
close_then rest mid left (inr (lacks, one)) (inl again) = inr (lacks, ap length again ∙ one)
close_then rest mid left (inr (lacks, one)) (inr (still, last)) = inr (lacks, last)

-- a closed gate is such an end
open_or_not : (gate : ℕ) → (gate ≡ 1) ⊎ (gate ≢ 1)
open_or_not zero = inr (λ e. omega (arith, e))
open_or_not (suc zero) = inl refl
open_or_not (suc (suc n)) = inr (λ e. omega (arith, e))

pub closed_closes : (rest : List ℕ) → IsEnd rest → MayClose rest (closed_end rest)
closed_closes [] ends = inr (inl refl, refl)
closed_closes (gate ∷ rest) (inl other) = inl (ap (λ (g : ℕ). g ∷ rest) (closed_gate gate other))
closed_closes (gate ∷ rest) (inr none) =
    ⊎_elim (λ is. inr (inr (ap (λ (g : ℕ). g ∷ rest) is ∙ ap (λ (t : List ℕ). 1 ∷ t) none), ap (λ (t : List ℕ). length ((if gate == 1 then 0 else gate) ∷ t)) none))
    (λ other. inl (ap (λ (g : ℕ). g ∷ rest) (closed_gate gate other))) (open_or_not gate)

pub closed_written : (bytes after : List ℕ) (commits : List (List Change)) (low : IsLow bytes commits) (gate : ℕ) → gate ≡ (opened_of commits).gate → after ≡ take gate bytes ++ closed_end (drop gate bytes) → IsEndWritten bytes after
closed_written bytes after commits low gate is there =
    inl (closing commits bytes low gate is after (closed_end (drop gate bytes)) (closed_closes (drop gate bytes) (low_ends commits bytes low gate is)) there)

-- ---- an opening
-- what was read is what was there, and its end was changed
pub open_keeps : (bytes : List ℕ) (commits : List (List Change)) (low : IsLow bytes commits) (gate : ℕ) → gate ≡ (opened_of commits).gate → (u v w : World) → v ≡ u → v.store ≡ bytes → EndStep gate bytes v w → (w ≡ u) ⊎ OpenStep u w
open_keeps bytes commits low gate is u v w same there step =
    inr (subst (λ (x : World). OpenStep x w) same (open_step commits bytes low gate is v w there step))

module _ {S : Type 0} (world : S → World) (moment : S → ℕ) (left_since : S → ℕ → World → Type 0) (old mid new : S) where
  pub open_goes : (bytes : List ℕ) (commits : List (List Change)) (low : IsLow bytes commits) (gate : ℕ) → gate ≡ (opened_of commits).gate → IsEarlier moment left_since mid → GoesOn moment left_since old mid NoStep
      → PinsStore (left_since mid (moment mid)) (world mid) → (world mid).store ≡ bytes → GoesOn moment left_since mid new (EndStep gate bytes) → GoesOn moment left_since old new OpenStep
  open_goes bytes commits low gate is earlier first durable there last =
      nothing_then moment left_since old mid new OpenStep earlier first
      (as_step moment left_since mid new (EndStep gate bytes) OpenStep (λ v w left step. open_step commits bytes low gate is v w (durable v left ∙ there) step) last)
