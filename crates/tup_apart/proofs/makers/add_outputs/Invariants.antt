use Rattle.std.proofs.Common.{◌≡◌, drop, fold}
use Rattle.tup_apart.specs.Makers.{with_maker}
use Rattle.tup_apart.proofs.makers.add_outputs.Given as goal

abbrev pub invariant-loop-path : goal.invariant-loop-path
invariant-loop-path l = fold (with_maker l.number) l.makers (drop l.path-index l.outputs) ≡ fold (with_maker l.number) l.fn.makers l.outputs
