use Rattle.std.proofs.Common.{take}
use Rattle.tup_readers.specs.Suspects.{WroteOther}
use Rattle.tup_readers.proofs.suspects.wrote_other.Given as goal

abbrev pub invariant-loop-path : goal.invariant-loop-path
invariant-loop-path l = WroteOther l.files.seen (take l.path-index l.writes) → ⊥
