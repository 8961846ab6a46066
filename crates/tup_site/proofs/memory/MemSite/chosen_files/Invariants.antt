use Rattle.std.proofs.Common.{◌≡◌, drop}
use Rattle.tup_path.specs.Tree.{tree_of_files}
use Rattle.tup_site.specs.Choice.{chosen}
use Rattle.tup_site.proofs.memory.MemSite.chosen_files.Given as goal

abbrev pub invariant-loop-path : goal.invariant-loop-path
invariant-loop-path l = chosen (tree_of_files l.files.entries) (drop l.path-index l.choice) ≡ chosen (tree_of_files l.initial.files.entries) l.choice
