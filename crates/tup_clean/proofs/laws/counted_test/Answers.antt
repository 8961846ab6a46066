use Rattle.std.proofs.Common.{length}
use Rattle.tup_clean.proofs.Deciding.{counted_all}
use Rattle.tup_clean.proofs.MayTake.{good_over}
use Rattle.tup_clean.proofs.laws.counted_test.Goals as goal

pub returns : goal.returns
returns c = λ rules verdicts rule. (counted_all rules verdicts rule, good_over rules verdicts (length rules) rule)
