use Rattle.std.proofs.Common.{◌≡◌, ◌++◌, string_bytes, drop}
use Rattle.std.specs.List.{flat_map}
use Rattle.tup_top.specs.Lines as specs
use Rattle.tup_top.proofs.print.add_removes.Given as goal

abbrev pub invariant-loop-path : goal.invariant-loop-path
invariant-loop-path l = string_bytes l.text ++ flat_map specs.removes_line (drop l.path-index l.paths) ≡ string_bytes l.fn.text ++ flat_map specs.removes_line l.paths
