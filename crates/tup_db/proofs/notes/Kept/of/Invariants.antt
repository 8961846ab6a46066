use Rattle.std.proofs.Common.{length}
use Rattle.tup_db.proofs.notes.Kept.of.Given as goal

abbrev pub decreases-loop-note : goal.decreases-loop-note
decreases-loop-note l = length l.rest
