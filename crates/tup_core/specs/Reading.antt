-- What a core tells of a rule by itself (own).
use Rattle.std.specs.Prelude.{ℕ, Bool, not, ◌&&◌, ◌==◌}
use Rattle.tup_core.specs.declared.machine.Core.{Core}
use Rattle.tup_core.specs.Waiting.{flag, number}

-- whether a rule may be claimed unless something is stopped, told by flags and counts
abbrev pub open_test : Core → ℕ → Bool
open_test core at = flag core.pending.items at && not (flag core.claimed.items at) && number core.waiting.waits.items at == 0

-- whether a rule that isn't pending waits for none, told by flags and counts
abbrev pub pass_test : Core → ℕ → Bool
pass_test core at = not (flag core.pending.items at) && number core.waiting.waits.items at == 0
