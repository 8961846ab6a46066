use Rattle.std.proofs.Common.{take}
use Rattle.tup_why.specs.Makers.{AreMakersAmong}
use Rattle.tup_why.proofs.makers.makers_of.Given as goal

abbrev pub invariant-loop-number : goal.invariant-loop-number
invariant-loop-number l = AreMakersAmong l.plan.rules (take l.number-index l.plan.reach) l.makers
