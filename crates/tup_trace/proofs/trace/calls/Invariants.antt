use Rattle.std.proofs.Common.{◌≡◌, drop}
use Rattle.tup_trace.specs.Trace.{read_all, trace_begun}
use Rattle.tup_trace.proofs.trace.calls.Given as goal

abbrev pub invariant-loop-byte : goal.invariant-loop-byte
invariant-loop-byte l = read_all (drop l.byte-index l.bytes) l.trace ≡ read_all l.bytes trace_begun
