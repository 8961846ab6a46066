use Rattle.std.proofs.Common.{◌≡◌, ◌++◌, string_bytes, drop}
use Rattle.tup_large.specs.Shown as specs
use Rattle.tup_large.proofs.lines.add_ends.Given as goal

abbrev pub invariant-loop-at : goal.invariant-loop-at
invariant-loop-at l = string_bytes l.text ++ specs.ends_lines l.at (drop l.at l.ends) ≡ string_bytes l.fn.text ++ specs.ends_lines 0 l.ends
