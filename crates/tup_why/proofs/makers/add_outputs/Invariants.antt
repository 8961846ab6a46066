use Rattle.std.proofs.Common.{take}
use Rattle.tup_closure.specs.Grows.{Grows}
use Rattle.tup_closure.specs.Lists.{IsListed}
use Rattle.tup_why.specs.Makers.{IsOneOf}
use Rattle.tup_why.proofs.makers.add_outputs.Given as goal

abbrev pub invariant-loop-path : goal.invariant-loop-path
invariant-loop-path l = Grows (IsOneOf (take l.path-index l.outputs) l.number) (IsListed l.fn.makers) (IsListed l.makers)
