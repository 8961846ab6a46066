use Rattle.std.proofs.Common.{◌≡◌, ◌++◌, drop}
use Rattle.tup_proc_runner.specs.Told.{list_of}
use Rattle.tup_proc_runner.proofs.stage.listed.Given as goal

abbrev pub invariant-loop-path : goal.invariant-loop-path
invariant-loop-path l = l.list.items ++ list_of (drop l.path-index l.paths) ≡ list_of l.paths
