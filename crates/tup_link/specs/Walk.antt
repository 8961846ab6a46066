-- A depth-first walk through a graph (own).
use Rattle.std.specs.Prelude.{◌≡◌, ◌≢◌, ℕ, ◌+◌, ◌-◌, ◌<◌, ◌≤◌, Bool, true, false, if◌then◌else◌, List, [], ◌∷◌, ◌++◌, length, take, drop, Some, slice_get, slice_set, slice_index, unwrap_or, nat_eq, count_by}
use Rattle.std.specs.List.{sum_by}
use Rattle.tup_link.specs.declared.walk.State.{State}
use Rattle.tup_link.specs.declared.walk.State.TheVariants.{New, OnWay, Done}
use Rattle.tup_link.specs.declared.walk.Walk.{Walk}
use Rattle.tup_link.specs.Graph.{led_to, Leads, LeadsOver}

-- the state of a place
abbrev pub state : Walk → ℕ → State
state walk at = unwrap_or (slice_get walk.states.items at) New

-- whether a place is on the way
abbrev pub on_way : State → Bool
on_way OnWay = true
on_way New = false
on_way Done = false

-- a walk: its way leads from place to place, and a place that is done leads to such alone and never to itself
pub record IsWalk (graph : List (List ℕ)) (walk : Walk) : Type 0 where
  pub all_states : length walk.states.items ≡ length graph
  pub all_passed : length walk.passed.items ≡ length graph
  -- the places on the way are those whose state says so, and none stands there twice
  pub way : (at : ℕ) → count_by (nat_eq at) walk.way.items ≡ (if on_way (state walk at) then 1 else 0)
  pub leads : (i : ℕ) → i + 1 < length walk.way.items → Leads graph (slice_index walk.way.items i) (slice_index walk.way.items (i + 1))
  -- of the places to which one leads, the first are passed: they are done
  pub passed : (at i next : ℕ) → i < slice_index walk.passed.items at → slice_get (led_to graph at) i ≡ Some next → state walk next ≡ Done
  pub done : (at next : ℕ) → state walk at ≡ Done → Leads graph at next → state walk next ≡ Done
  pub no_circle : (at between : ℕ) → state walk at ≡ Done → LeadsOver between graph at at → ⊥

-- the places to which a walk may still have to go on, where of those of each place the first are passed
abbrev pub to_pass : List (List ℕ) → List ℕ → ℕ
to_pass [] passed = 0
to_pass (list ∷ graph) [] = 0
to_pass (list ∷ graph) (n ∷ passed) = (length list - n) + to_pass graph passed

-- the steps onto and from a place that are left
abbrev pub steps_at : State → ℕ
steps_at New = 2
steps_at OnWay = 1
steps_at Done = 0

-- how many steps a walk has at most
abbrev pub steps_left : List (List ℕ) → Walk → ℕ
steps_left graph walk = to_pass graph walk.passed.items + sum_by steps_at walk.states.items

-- a place is the last on the way
abbrev pub IsAt : Walk → ℕ → Type 0
IsAt walk at = (front : List ℕ) × (walk.way.items ≡ front ++ at ∷ [])

-- a walk entered a place
pub record Enters (at : ℕ) (old new : Walk) : Type 0 where
  pub states : new.states.items ≡ slice_set old.states.items at OnWay
  pub passed : new.passed.items ≡ old.passed.items
  pub way : new.way.items ≡ old.way.items ++ at ∷ []

-- it left the last place on its way, which is done
pub record Leaves (at : ℕ) (old new : Walk) : Type 0 where
  pub states : new.states.items ≡ slice_set old.states.items at Done
  pub passed : new.passed.items ≡ old.passed.items
  pub way : old.way.items ≡ new.way.items ++ at ∷ []

-- it passed one more place to which this one leads
pub record Passes (at : ℕ) (old new : Walk) : Type 0 where
  pub states : new.states.items ≡ old.states.items
  pub passed : new.passed.items ≡ slice_set old.passed.items at (slice_index old.passed.items at + 1)
  pub way : new.way.items ≡ old.way.items

-- a walk went on from another
pub record GoesOn (graph : List (List ℕ)) (old new : Walk) : Type 0 where
  pub walk : IsWalk graph new
  pub met : (at : ℕ) → state old at ≢ New → state new at ≢ New
  pub done : (at : ℕ) → state old at ≡ Done → state new at ≡ Done

-- a walk begins to go on from a place: it came there before, or comes there now
abbrev pub Begins : ℕ → Walk → Walk → Type 0
Begins from old new = (graph : List (List ℕ)) → IsWalk graph old → GoesOn graph old new × (state new from ≢ New)

-- the last place on the way leads back to one on it
abbrev pub LeadsBack : List (List ℕ) → Walk → ℕ → Type 0
LeadsBack graph walk back = (state walk back ≡ OnWay) × ((at : ℕ) → IsAt walk at → Leads graph at back)

-- a walk stands still, and what it came to is done
abbrev pub IsOver : Walk → ℕ → Type 0
IsOver walk from = (walk.way.items ≡ []) × (state walk from ≡ Done)

-- places from the least of them on, which stood in this order before
pub record IsTurned (places turned : List ℕ) : Type 0 where
  pub at : ℕ
  pub within : at < length places
  pub are : turned ≡ drop at places ++ take at places
  pub least : (i : ℕ) → i < length places → slice_index places at ≤ slice_index places i
