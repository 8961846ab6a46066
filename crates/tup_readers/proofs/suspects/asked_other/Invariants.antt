use Rattle.std.proofs.Common.{take}
use Rattle.tup_readers.specs.Suspects.{AskedOther}
use Rattle.tup_readers.proofs.suspects.asked_other.Given as goal

abbrev pub invariant-loop-path : goal.invariant-loop-path
invariant-loop-path l = AskedOther l.files.seen (take l.path-index l.asks) → ⊥
