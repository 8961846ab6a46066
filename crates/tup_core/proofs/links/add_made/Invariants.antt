use Rattle.std.proofs.Common.{take}
use Rattle.tup_core.specs.Links.{AddsMakerIn}
use Rattle.tup_core.proofs.links.add_made.Given as goal

abbrev pub invariant-loop-output : goal.invariant-loop-output
invariant-loop-output l = AddsMakerIn l.made (take l.output-index l.outputs) l.at l.fn.makers l.makers
