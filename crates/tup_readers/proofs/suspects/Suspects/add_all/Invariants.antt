use Rattle.std.proofs.Common.{take}
use Rattle.std.specs.Prelude.{Contains}
use Rattle.tup_readers.specs.Changes.{Adds}
use Rattle.tup_readers.specs.Suspects.{IsAmong}
use Rattle.tup_readers.proofs.suspects.Suspects.add_all.Given as goal

abbrev pub invariant-loop-number : goal.invariant-loop-number
invariant-loop-number l = Adds (Contains (take l.number-index l.numbers)) (IsAmong l.fn.self.numbers) (IsAmong l.self.numbers)
