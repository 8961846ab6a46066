use Rattle.std.proofs.Common.{◌≡◌, drop}
use Rattle.std.specs.List.{fold}
use Rattle.tup_trace.specs.Quoting.{nothing_read, read_quoted}
use Rattle.tup_trace.proofs.quoting.unquoted.Given as goal

abbrev pub invariant-loop-byte : goal.invariant-loop-byte
invariant-loop-byte l = fold read_quoted l.read (drop l.byte-index l.quoted) ≡ fold read_quoted nothing_read l.quoted
