use Rattle.tup_commit.proofs.Seeing.{has_seen}
use Rattle.tup_commit.proofs.laws.scans_see.Goals as goal

pub returns : goal.returns
returns c = λ old new tree seen path is scanned. has_seen old new tree seen is scanned path
