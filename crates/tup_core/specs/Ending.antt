-- The verdict with which a seat's command ends (own).
use Rattle.std.specs.Prelude.{◌≡◌, ℕ, List, Option, None, Some}
use Rattle.std.specs.Option.{option_map}
use Rattle.tup_access.specs.declared.verdict.Verdict.{Verdict}
use Rattle.tup_core.specs.declared.running.Running.{Running}

-- a command runs that was refused nothing
abbrev pub IsUnrefused : Option Running → Type 0
IsUnrefused seat = (running : Running) × (seat ≡ Some running) × (running.denied ≡ None)

-- the verdict that a command keeps
abbrev pub kept_of : Option Running → Option Verdict
kept_of None = None
kept_of (Some running) = option_map (λ (denied : List ℕ × Verdict). denied.1) running.denied

-- what a seat's command ends with, where a kept verdict is this one
abbrev pub EndsWith : Option Running → Verdict → Option Verdict → Type 0
EndsWith seat verdict given =
    (running : Running) → seat ≡ Some running → ((denied : List ℕ × Verdict) → running.denied ≡ Some denied → verdict ≡ denied.1) → given ≡ Some verdict
