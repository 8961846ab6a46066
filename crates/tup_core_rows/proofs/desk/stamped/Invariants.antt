use Rattle.std.proofs.Common.{◌≡◌, take}
use Rattle.tup_core_rows.specs.Desk.{names_in}
use Rattle.tup_core_rows.proofs.desk.stamped.Given as goal

abbrev pub invariant-loop-path : goal.invariant-loop-path
invariant-loop-path l = names_in l.files ≡ take l.path-index l.paths
