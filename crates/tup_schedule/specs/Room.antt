-- How many events may still happen beside asks (own). A board has room for these in its history, so that a claim, the end
-- of a command that was denied an ask, and a stop take no memory.
use Rattle.std.specs.Prelude.{ℕ, zero, suc, ◌+◌, ◌*◌, Bool, if◌then◌else◌, List, [], ◌∷◌, Option, is_none}
use Rattle.tup_core.specs.declared.plan.Plan.{Plan}
use Rattle.tup_core.specs.declared.running.Running.{Running}
use Rattle.tup_core.specs.Step.{State}

-- how many numbers of a list weren't claimed
abbrev pub unclaimed : (ℕ → Bool) → List ℕ → ℕ
unclaimed claimed [] = 0
unclaimed claimed (number ∷ numbers) = (if claimed number then 0 else 1) + unclaimed claimed numbers

-- one for a seat that runs a rule
abbrev pub runs_one : Option Running → ℕ
runs_one seat = if is_none seat then 0 else 1

-- how many of the first seats run a rule
abbrev pub busy : (ℕ → Option Running) → ℕ → ℕ
busy seats zero = 0
busy seats (suc count) = runs_one (seats count) + busy seats count

-- a claim and an end of each rule that wasn't claimed, an end at each of the 16 seats that runs one, and the first stop
abbrev pub to_come : Plan → State → ℕ
to_come plan state = 2 * unclaimed state.claimed plan.reach + busy state.seats 16 + (if is_none state.stopped then 1 else 0)
