-- A walk from rules to the rules that read what they make (own).
use Rattle.std.specs.Prelude.{◌≡◌, ◌⊎◌, ◌+◌, ◌≤◌, ℕ, true, Some, Contains, List, length, slice_get, sum_by}
use Rattle.std.specs.BTreeSet.{contains, IsOrdered}
use Rattle.std.specs.Ordering.{nat_cmp}
use Rattle.tup_rule.specs.declared.rule.Rule.{Rule}
use Rattle.tup_graph.specs.Above.{IsAbove, HasReadOf}
use Rattle.tup_graph.specs.Graph.{GraphState, is_rule}
use Rattle.tup_closure.specs.Grows.{Grows}
use Rattle.tup_closure.specs.Steps.{IsListOf, looks}
use Rattle.tup_closure.specs.declared.walk.Walk.{Walk}

-- a walk has come to a rule, and has yet to look who reads what it makes
abbrev pub IsReached : Walk → ℕ → Type 0
IsReached walk number = contains nat_cmp walk.reached number ≡ true

-- a walk has yet to look who reads what a rule makes
abbrev pub IsWaiting : Walk → ℕ → Type 0
IsWaiting walk number = Contains walk.waiting.items number

-- a walk goes on to just these rules: the new ones among them wait
pub record GoesTo (Rules : ℕ → Type 0) (old new : Walk) : Type 0 where
  pub reached : Grows Rules (IsReached old) (IsReached new)
  pub waits : (number : ℕ) → IsReached new number → IsReached old number ⊎ IsWaiting new number
  pub still : (number : ℕ) → IsWaiting old number → IsWaiting new number
  pub no_others : (number : ℕ) → IsWaiting new number → IsWaiting old number ⊎ Rules number
  -- what is reached and no longer waits stays as it was, however the rules are weighed
  pub weighs : (weight : ℕ → ℕ) → sum_by weight new.waiting.items + sum_by weight old.reached.keys ≡ sum_by weight old.waiting.items + sum_by weight new.reached.keys
  pub more : length old.reached.keys ≤ length new.reached.keys
  pub ordered : IsOrdered nat_cmp old.reached → IsOrdered nat_cmp new.reached

-- all who read what a rule makes were reached
abbrev pub IsDone : GraphState → Walk → ℕ → Type 0
IsDone g walk number = (maker : Rule) (reader : ℕ) → slice_get g.rules number ≡ Some maker → HasReadOf g reader maker → IsReached walk reader

-- a walk from these roots: all it has come to lies above them, and it has yet to look at those that wait alone
pub record IsWalk (g : GraphState) (Root : ℕ → Type 0) (walk : Walk) : Type 0 where
  pub sound : (number : ℕ) → IsReached walk number → IsAbove g Root number
  pub roots : (number : ℕ) → Root number → IsReached walk number
  pub done : (number : ℕ) → IsReached walk number → IsWaiting walk number ⊎ IsDone g walk number
  pub inside : (number : ℕ) → IsWaiting walk number → IsReached walk number
  pub rules : (number : ℕ) → IsReached walk number → is_rule g number ≡ true
  pub ordered : IsOrdered nat_cmp walk.reached

-- the steps of a walk from some roots so far: one for each root, and the looks at the readers of what the rules make that no longer wait
pub record IsCounted (g : GraphState) (Root : ℕ → Type 0) (before : ℕ) (walk : Walk) (steps : ℕ) : Type 0 where
  pub roots : List ℕ
  pub are_roots : IsListOf Root roots
  pub so_far : steps + looks g walk.waiting.items ≡ before + length roots + looks g walk.reached.keys
