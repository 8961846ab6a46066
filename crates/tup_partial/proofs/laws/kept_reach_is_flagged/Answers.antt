use Rattle.tup_partial.proofs.Reach.{to_run_is_flagged}
use Rattle.tup_partial.proofs.laws.kept_reach_is_flagged.Goals as goal

pub returns : goal.returns
returns c = λ next language known g number kept runs is. to_run_is_flagged g runs next language known kept number is
