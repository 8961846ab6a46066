use Rattle.tup_scan_diff.proofs.Folders.{in_either}
use Rattle.tup_scan_diff.proofs.turned.in_one.Goals as goal

pub returns-clause-paths : goal.returns-clause-paths
returns-clause-paths c = in_either c.new-paths.result c.add_lacking.new.paths c.add_lacking-2.new.paths c.new-paths.ensures.empty c.in_ok-add_lacking.ensures.added c.in_ok-add_lacking-2.ensures.added
