use Rattle.std.proofs.Common.{take}
use Rattle.tup_update.proofs.Chained.{HasChains}
use Rattle.tup_update.proofs.because.chains.Given as goal

abbrev pub invariant-loop-number : goal.invariant-loop-number
invariant-loop-number l = HasChains l.nodes l.plan (take l.number-index l.plan.reach) l.chains
