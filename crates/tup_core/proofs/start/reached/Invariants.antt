use Rattle.std.proofs.Common.{◌≡◌, ℕ, length, take}
use Rattle.std.specs.Prelude.{◌==◌}
use Rattle.std.specs.List.{list_any}
use Rattle.tup_core.specs.Waiting.{flag}
use Rattle.tup_core.proofs.start.reached.Given as goal

abbrev pub invariant-loop-at : goal.invariant-loop-at
invariant-loop-at l = record {
  long : length l.flags.items ≡ length l.plan.rules;
  marked : (at : ℕ) → flag l.flags.items at ≡ list_any (λ number. at == number) (take l.at-index l.plan.reach);
}
