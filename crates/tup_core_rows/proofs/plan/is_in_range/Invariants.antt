use Rattle.std.proofs.Common.{◌≡◌, ℕ, ◌<◌, true, length, take}
use Rattle.std.specs.Prelude.{◌==◌}
use Rattle.std.specs.List.{list_any}
use Rattle.tup_core_rows.proofs.plan.is_in_range.Given as goal

abbrev pub invariant-loop-number : goal.invariant-loop-number
invariant-loop-number l = (at : ℕ) → list_any (λ number. at == number) (take l.number-index l.plan.reach) ≡ true → at < length l.plan.rules
