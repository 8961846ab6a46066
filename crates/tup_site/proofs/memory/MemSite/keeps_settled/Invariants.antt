use Rattle.std.proofs.Common.{◌≡◌, true, false, take}
use Rattle.std.specs.FinMap as finite
use Rattle.tup_path.specs.Name.{Names}
use Rattle.tup_path.specs.Tree.{tree_of_files}
use Rattle.tup_site.specs.Choice.{names}
use Rattle.tup_site.specs.State.{is_among}
use Rattle.tup_site.specs.Memory.{state_of, tree_in}
use Rattle.tup_site.proofs.memory.MemSite.keeps_settled.Given as goal

abbrev pub invariant-loop-path : goal.invariant-loop-path
invariant-loop-path l = (path : Names) → names (take l.path-index l.choice) path ≡ true → is_among (state_of l.self).loose path ≡ false → finite.get (tree_of_files l.files.entries) path ≡ finite.get (tree_in l.self) path
