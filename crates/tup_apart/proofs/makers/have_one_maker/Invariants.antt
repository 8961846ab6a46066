use Rattle.std.proofs.Common.{take}
use Rattle.tup_apart.specs.Makers.{AreOnlyMakers}
use Rattle.tup_apart.proofs.makers.have_one_maker.Given as goal

abbrev pub invariant-loop-number : goal.invariant-loop-number
invariant-loop-number l = AreOnlyMakers l.makers l.rules (take l.number-index l.numbers)
