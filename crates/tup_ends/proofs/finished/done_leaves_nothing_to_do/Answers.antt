use Rattle.tup_ends.proofs.Nothing.{none_goes_then, none_runs_then}
use Rattle.tup_ends.proofs.finished.done_leaves_nothing_to_do.Goals as goal

pub returns-clause-runs : goal.returns-clause-runs
returns-clause-runs c = none_runs_then

pub returns-clause-removes : goal.returns-clause-removes
returns-clause-removes c = none_goes_then
