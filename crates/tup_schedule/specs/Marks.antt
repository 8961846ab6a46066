-- Marks at places, as they are kept in a tree of truths (own).
use Rattle.std.specs.Prelude.{◌≡◌, ℕ, ◌+◌, ◌*◌, ◌^◌, ◌<◌, ◌≤◌, Bool, true, false, ◌||◌, length}
use Rattle.tup_schedule.specs.declared.marks.Marks.{Marks}
use Rattle.tup_core.specs.Waiting.{flag}

-- a power of two
abbrev pub IsPower : ℕ → Type 0
IsPower number = (times : ℕ) × (number ≡ 2 ^ times)

-- whether there is a mark at a place
abbrev pub is_marked : Marks → ℕ → Bool
is_marked marks at = flag marks.nodes.items (marks.places + at)

-- a node is up where one of the two below it is
abbrev pub IsJoint : Marks → ℕ → Type 0
IsJoint marks node = flag marks.nodes.items node ≡ (flag marks.nodes.items (2 * node) || flag marks.nodes.items (2 * node + 1))

-- what is kept of marks: a tree over a power of two of places
pub record IsMarks (marks : Marks) : Type 0 where
  pub power : IsPower marks.places
  pub few : marks.places ≤ 2 ^ 33
  pub many : length marks.nodes.items ≡ 2 * marks.places
  pub joints : (node : ℕ) → 0 < node → node < marks.places → IsJoint marks node

-- the first place with a mark
pub record IsFirstMark (marks : Marks) (at : ℕ) : Type 0 where
  pub within : at < marks.places
  pub marked : is_marked marks at ≡ true
  pub first : (before : ℕ) → before < at → is_marked marks before ≡ false
