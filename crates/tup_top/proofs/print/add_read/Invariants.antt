use Rattle.std.proofs.Common.{◌≡◌, ◌++◌, string_bytes, drop}
use Rattle.std.specs.List.{flat_map}
use Rattle.tup_top.specs.Lines as specs
use Rattle.tup_top.proofs.print.add_read.Given as goal

abbrev pub invariant-loop-dir : goal.invariant-loop-dir
invariant-loop-dir l = string_bytes l.text ++ flat_map specs.read_line (drop l.dir-index l.folders) ≡ string_bytes l.fn.text ++ flat_map specs.read_line l.folders
