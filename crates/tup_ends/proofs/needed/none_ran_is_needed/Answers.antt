use Rattle.tup_ends.proofs.Due.{none_runs}
use Rattle.tup_ends.proofs.needed.none_ran_is_needed.Goals as goal

pub returns : goal.returns
returns c = λ next keep_going jobs w stopped all. none_runs next keep_going jobs w stopped all
