-- Which rules may be claimed as soon as nothing is stopped, told by marks (own).
use Rattle.std.specs.Prelude.{◌≡◌, ℕ, ◌^◌, ◌<◌, ◌≤◌, ◌⊎◌, true, false, List, length, Some, slice_get, IsTrue, ◌↔◌}
use Rattle.tup_rule.specs.declared.rule.Rule.{Rule}
use Rattle.tup_clean.specs.Queue.{count_of}
use Rattle.tup_core.specs.declared.machine.Core.{Core}
use Rattle.tup_core.specs.declared.plan.Plan.{Plan}
use Rattle.tup_core.specs.Reading.{open_test, pass_test}
use Rattle.tup_core.specs.Waiting.{times}
use Rattle.tup_schedule.specs.declared.marks.Marks.{Marks}
use Rattle.tup_schedule.specs.declared.turn.Turn.{Turn}
use Rattle.tup_schedule.specs.Marks.{IsMarks, is_marked}
use Rattle.tup_core.specs.Step.{State, IsReady, IsClear, is_reached, changed}

-- a rule is pending, was never claimed, and no declared producer of it is pending
pub record IsOpen (plan : Plan) (state : State) (at : ℕ) : Type 0 where
  pub pending : state.pending at ≡ true
  pub unclaimed : state.claimed at ≡ false
  pub clear : (rule : Rule) × (slice_get plan.rules at ≡ Some rule) × IsClear plan state rule

-- the first rule that may be claimed
pub record IsFirstReady (plan : Plan) (state : State) (at : ℕ) : Type 0 where
  pub ready : IsReady plan state at
  pub first : (before : ℕ) → before < at → IsReady plan state before → ⊥

-- a rule is none of these, and behind none of them that passes on
abbrev pub IsBeside : Core → List ℕ → ℕ → Type 0
IsBeside core places at = (count_of at places ≡ 0) × ((next : ℕ) → 0 < count_of next places → pass_test core next ≡ true → times core.waiting.waiters.items next at ≡ 0)

-- marks were told: a rule has the mark that it should have, or it is beside those that were told and has the mark that it had
abbrev pub IsTold : Core → List ℕ → Marks → Marks → ℕ → Type 0
IsTold core places old new at = (is_marked new at ≡ open_test core at) ⊎ (IsBeside core places at × (is_marked new at ≡ is_marked old at))

-- there is a mark at just these rules
pub record IsTurn (plan : Plan) (state : State) (turn : Turn) : Type 0 where
  pub marks : IsMarks turn.marks
  pub places : length plan.rules ≤ turn.marks.places
  pub few : length plan.rules ≤ 2 ^ 32
  pub each : (at : ℕ) → IsTrue (is_marked turn.marks at) ↔ IsOpen plan state at

-- what was reached and is pending no longer waits for none
abbrev pub IsSettledIn : Plan → State → Type 0
IsSettledIn plan state = (at : ℕ) (rule : Rule) → is_reached plan at ≡ true → state.pending at ≡ false → slice_get plan.rules at ≡ Some rule → IsClear plan state rule

-- from a state to another a rule, one of the reach if it was pending, is pending no longer; what is pending or claimed is
-- the same otherwise
pub record Frees (plan : Plan) (before : State) (number : ℕ) (after : State) : Type 0 where
  pub reached : before.pending number ≡ true → is_reached plan number ≡ true
  pub settled : IsSettledIn plan before
  pub pending : (at : ℕ) → after.pending at ≡ changed before.pending number false at
  pub claimed : (at : ℕ) → after.claimed at ≡ before.claimed at

-- from a state to another a rule is claimed, and what is pending or claimed is the same otherwise
pub record Takes (before : State) (number : ℕ) (after : State) : Type 0 where
  pub pending : (at : ℕ) → after.pending at ≡ before.pending at
  pub claimed : (at : ℕ) → after.claimed at ≡ changed before.claimed number true at

-- what is pending and claimed is the same
pub record IsSameTurn (before after : State) : Type 0 where
  pub pending : (at : ℕ) → after.pending at ≡ before.pending at
  pub claimed : (at : ℕ) → after.claimed at ≡ before.claimed at

-- there is a state for which marks stand
abbrev pub HasTurn : Plan → Turn → Type 0
HasTurn plan turn = (state : State) × IsTurn plan state turn
