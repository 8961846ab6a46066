use Rattle.std.proofs.Common.{◌≡◌, ℕ}
use Rattle.std.specs.Prelude.{Contains, take, option_map, slice_get}
use Rattle.std.specs.BTreeMap.{get}
use Rattle.std.specs.Ordering.{nat_cmp}
use Rattle.tup_rule.specs.Rule.{name_of}
use Rattle.tup_update.proofs.names.waiting.Given as goal

abbrev pub invariant-loop-number : goal.invariant-loop-number
invariant-loop-number l = (at : ℕ) → Contains (take l.number-index l.fn.plan.reach) at → get nat_cmp l.names at ≡ option_map name_of (slice_get l.fn.plan.rules at)
