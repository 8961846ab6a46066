use Rattle.std.proofs.Common.{◌≡◌, ◌++◌, string_bytes, drop}
use Rattle.std.specs.List.{flat_map}
use Rattle.tup_top.specs.Lines as specs
use Rattle.tup_top.proofs.print.add_runs.Given as goal

abbrev pub invariant-loop-due : goal.invariant-loop-due
invariant-loop-due l = string_bytes l.text ++ flat_map specs.runs_line (drop l.due-index l.rules) ≡ string_bytes l.fn.text ++ flat_map specs.runs_line l.rules
