use Rattle.std.proofs.Common.{take}
use Rattle.tup_core.specs.Links.{AreMade}
use Rattle.tup_core.proofs.links.made_by.Given as goal

abbrev pub invariant-loop-at : goal.invariant-loop-at
invariant-loop-at l = AreMade l.rules (take l.at-index l.reach) l.made
