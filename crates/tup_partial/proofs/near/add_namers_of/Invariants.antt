use Rattle.std.proofs.Common.{take}
use Rattle.tup_closure.specs.Grows.{Grows}
use Rattle.tup_partial.specs.Near.{IsIn, NamesOneOf}
use Rattle.tup_partial.proofs.near.add_namers_of.Given as goal

abbrev pub invariant-loop-path : goal.invariant-loop-path
invariant-loop-path l = Grows (NamesOneOf l.graph (take l.path-index l.paths)) (IsIn l.fn.found) (IsIn l.found)
