use Rattle.std.proofs.Common.{◌≡◌, None, replicate}
use Rattle.tup_clean.proofs.build.no_verdicts.Given as goal

abbrev pub invariant-loop : goal.invariant-loop
invariant-loop l = l.verdicts.items ≡ replicate l.counter None
