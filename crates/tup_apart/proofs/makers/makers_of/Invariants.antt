use Rattle.std.proofs.Common.{◌≡◌, drop, fold}
use Rattle.tup_apart.specs.Makers.{makers_in, with_outputs}
use Rattle.tup_apart.proofs.makers.makers_of.Given as goal

abbrev pub invariant-loop-number : goal.invariant-loop-number
invariant-loop-number l = fold (with_outputs l.plan.rules) l.makers (drop l.number-index l.plan.reach) ≡ makers_in l.plan
