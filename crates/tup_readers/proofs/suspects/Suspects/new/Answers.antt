use Rattle.std.specs.FinMap as finite
use Rattle.tup_readers.proofs.Suspecting.{nobody_runs}
use Rattle.tup_readers.proofs.suspects.Suspects.new.Goals as goal

pub returns : goal.returns
returns c = nobody_runs finite.empty c.new.result
