use Rattle.std.proofs.Common.{take}
use Rattle.tup_site.specs.Choice.{known_after}
use Rattle.tup_site.specs.Held.{IsHeld}
use Rattle.tup_site.specs.Memory.{known_in}
use Rattle.tup_site.proofs.memory.MemSite.chosen_known.Given as goal

abbrev pub invariant-loop-content : goal.invariant-loop-content
invariant-loop-content l = IsHeld l.known.contents.entries (known_after (known_in l.self) (take l.content-index l.choice))
