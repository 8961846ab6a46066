-- Runs of the core, and what is claimed in them (own).
use Rattle.std.specs.Prelude.{ℕ, List, [], ◌∷◌}
use Rattle.tup_core.specs.declared.event.CoreEvent.{CoreEvent}
use Rattle.tup_core.specs.declared.event.CoreEvent.TheVariants.{Claim, Ask, Deny, Finish, Stop}
use Rattle.tup_core.specs.declared.plan.Plan.{Plan}
use Rattle.tup_core.specs.Step.{State, IsEnabled, after}

-- events of which each may happen where it stands
abbrev pub IsRun : Plan → State → List CoreEvent → Type 0
IsRun plan state [] = Unit {0}
IsRun plan state (event ∷ events) = IsEnabled plan state event × IsRun plan (after plan state event) events

-- the state at the end of some events
abbrev pub end_of : Plan → State → List CoreEvent → State
end_of plan state [] = state
end_of plan state (event ∷ events) = end_of plan (after plan state event) events

-- the rules that are claimed, in their order
abbrev pub claims : List CoreEvent → List ℕ
claims [] = []
claims (Claim seat rule ∷ events) = rule ∷ claims events
claims (event ∷ events) = claims events

-- the seat at which an event happened
abbrev pub seat_of : CoreEvent → ℕ
seat_of (Claim seat rule) = seat
seat_of (Ask seat text answer) = seat
seat_of (Deny seat text verdict) = seat
seat_of (Finish seat verdict writes) = seat
seat_of (Stop seat cause) = seat
