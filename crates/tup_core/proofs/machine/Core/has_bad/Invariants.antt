use Rattle.std.proofs.Common.{◌≡◌, ◌<◌, ℕ, None}
use Rattle.tup_core.specs.Machine.{entry}
use Rattle.tup_core.proofs.machine.Core.has_bad.Given as goal

abbrev pub invariant-loop-verdict : goal.invariant-loop-verdict
invariant-loop-verdict l = (at : ℕ) → at < l.verdict-index → entry l.self.bad.items at ≡ None
