use Rattle.std.proofs.Common.{◌≡◌, ◌++◌, string_bytes, drop}
use Rattle.tup_top.specs.Lines as specs
use Rattle.tup_top.proofs.print.add_ended.Given as goal

abbrev pub invariant-loop-at : goal.invariant-loop-at
invariant-loop-at l = string_bytes l.text ++ specs.ended_lines l.at (drop l.at l.ended) l.because ≡ string_bytes l.fn.text ++ specs.ended_lines 0 l.ended l.because
