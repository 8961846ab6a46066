use Rattle.std.specs.Prelude.{length}
use Rattle.tup_apart.proofs.place.+is_under_file.Given as goal

abbrev pub decreases-is_under_file : goal.decreases-is_under_file
decreases-is_under_file l = length l.path.now
