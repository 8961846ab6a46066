use Rattle.std.proofs.Common.{length}
use Rattle.tup_rule_line.proofs.path_set.+add_folders.Given as goal

abbrev pub decreases-add_folders : goal.decreases-add_folders
decreases-add_folders l = length l.path.now
