-- What seats of a lock know of the value under it, and the rule that ties it to them (own).
use Rattle.std.specs.Prelude.{◌≡◌, ◌≢◌, ◌==◌, ℕ, ◌+◌, ◌<◌, List, [], ◌∷◌, ◌++◌, length, filter, slice_index, Option, Some, None, All}
use mathlib.Core.Option.{some}
use lib.ListN.{get_elem?}
use Rattle.atomic_table.specs.Table.{State, Me, Step}
use Rattle.tup_lock.specs.declared.view.View.{View}
use Rattle.tup_lock.specs.declared.logged.Logged.{Ghosts as Log}

-- ---- values that have a history
-- what a lock is told of its values
abbrev pub log_of : {T E : Type 0} → (E → ℕ) → (T → List E) → (T → T) → (T → List ℕ → Type 0) → (T → ℕ → Type 0) → Log T E
log_of seat_of history origin knows stood = record { seat_of = seat_of; history = history; origin = origin; knows = knows; stood = stood }

module _ {T E : Type 0} (log : Log T E) where
  -- the events of a seat's number, each once and in order
  abbrev pub entries_of : ℕ → List E → List E
  entries_of number events = filter (λ event. log.seat_of event == number) events

  -- one value became the other: both began alike, more happened, what was known still is, and what stands now stood before
  pub record Later (old new : T) : Type 0 where
    pub began : log.origin new ≡ log.origin old
    pub more : List E
    pub adds : log.history new ≡ log.history old ++ more
    pub known : (text : List ℕ) → log.knows old text → log.knows new text
    pub stood : (count : ℕ) → log.stood new count → log.stood old count

  -- what a seat of this number may do to a value: it goes on, by events of its own number
  pub record OwnStep (number : ℕ) (old new : T) : Type 0 where
    pub later : Later old new
    pub own : All (λ event. log.seat_of event ≡ number) later.more

  -- a value as a seat may find it that left it as `last`: it went on, by events of other numbers
  pub record IsFound (number : ℕ) (last now : T) : Type 0 where
    pub later : Later last now
    pub same : entries_of number (log.history now) ≡ entries_of number (log.history last)

-- ---- what a seat knows
module _ {T : Type 0} where
  -- the first seat: number 0 is drawn
  abbrev pub first_view : T → View T
  first_view t = record { lasts = (0, t) ∷ []; count = 1; found = None }

  -- a seat that was taken in by another
  abbrev pub nobody : View T
  nobody = record { lasts = []; count = 0; found = None }

  -- of one number alone, whose seat left the value so; it holds the lock, and found this value
  abbrev pub inside : ℕ → T → ℕ → T → View T
  inside number last count found = record { lasts = (number, last) ∷ []; count = count; found = Some found }

  -- it holds the lock, and found this value
  abbrev pub holding : View T → T → View T
  holding v t = record { lasts = v.lasts; count = v.count; found = Some t }

  -- it put this value back
  abbrev pub given : View T → ℕ → T → View T
  given v number t = record { lasts = (number, t) ∷ []; count = v.count; found = None }

  -- what a new seat starts from
  abbrev pub drawn : ℕ → List (ℕ × T) → List (ℕ × T)
  drawn number [] = []
  drawn number (l ∷ ls) = (number, l.1) ∷ []

  -- the first seat after a new one was drawn, and the new one
  abbrev pub left_with : View T → View T
  left_with v = record { lasts = v.lasts; count = v.count + 1; found = v.found }

  -- the new seat, which has found nothing yet
  abbrev pub right_of : View T → View T
  right_of v = record { lasts = drawn v.count v.lasts; count = 0; found = None }

  -- a seat that took another in
  abbrev pub both_of : View T → View T → View T
  both_of v w = record { lasts = v.lasts ++ w.lasts; count = v.count; found = v.found }

-- ---- the rule
module _ {T E : Type 0} (log : Log T E) where
  -- a number is at this place, was drawn, and the value now may be found by its seat
  abbrev pub IsLast : T → ℕ → (ℕ → ℕ) → ℕ → ℕ × T → Type 0
  IsLast now count owner id l = (owner l.0 ≡ id) × (l.0 < count) × IsFound log l.0 l.1 now

  -- a view says what is so of the value now
  pub record Fits (now : T) (count chief holder word : ℕ) (owner : ℕ → ℕ) (id : ℕ) (v : View T) : Type 0 where
    pub lasts : All (IsLast now count owner id) v.lasts
    pub found : (t : T) → v.found ≡ Some t → (t ≡ now) × (id ≡ holder) × (word ≢ 0)
    pub counts : v.count ≢ 0 → (v.count ≡ count) × (id ≡ chief)

  -- while the word is 0 the slot has the value; only the holder has found it, and only the chief knows how many numbers were drawn.
  -- Each number is at one place, its owner
  pub record Held (start : T) (s : State (Option T) (View T)) : Type 0 where
    pub now : T
    pub count : ℕ
    pub chief : ℕ
    pub holder : ℕ
    pub owner : ℕ → ℕ
    pub wide : length s.words ≡ 1
    pub home : slice_index s.words 0 ≡ 0 → get_elem? s.homes 0 ≡ some (some (Some now))
    pub begins : Later log start now
    pub below : All (λ event. log.seat_of event < count) (log.history now)
    pub each : (id : ℕ) (v : View T) → get_elem? s.views id ≡ some v → Fits now count chief holder (slice_index s.words 0) owner id v

  -- what the seat that takes the lock sees of the value
  pub record Shows (v : View T) (t : T) : Type 0 where
    pub lasts : All (λ (l : ℕ × T). IsFound log l.0 l.1 t) v.lasts
    pub below : v.count ≢ 0 → All (λ event. log.seat_of event < v.count) (log.history t)

  -- the lock was free and is this seat's, with the value; or it wasn't, and nothing changed
  abbrev pub taken : Step (Option T) → Me (Option T) (View T) → ℕ → Me (Option T) (View T) → Type 0
  taken st m r m' = (r ≡ 0 → (t : T) × (m' ≡ (holding m.0 t, (0, Some t) ∷ m.1)) × Shows m.0 t) × (r ≢ 0 → m' ≡ m)

-- the value that the slot has is back
abbrev pub gave : {T : Type 0} → Step (Option T) → Me (Option T) (View T) → ℕ → Me (Option T) (View T) → Type 0
gave {T} st m r m' = (number : ℕ) (last t : T) (more : List (ℕ × Option T)) → m.0.lasts ≡ (number, last) ∷ [] → m.1 ≡ (0, Some t) ∷ more
    → m' ≡ (given m.0 number t, more)
