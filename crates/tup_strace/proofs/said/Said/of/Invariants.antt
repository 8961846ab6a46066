use Rattle.std.proofs.Common.{◌≡◌, drop}
use Rattle.std.specs.List.{fold}
use Rattle.tup_strace.specs.Said.{with_token, nothing_said}
use Rattle.tup_strace.proofs.said.Said.of.Given as goal

abbrev pub invariant-loop-part : goal.invariant-loop-part
invariant-loop-part l = fold (with_token l.folders l.process) l.said (drop l.part-index l.parts) ≡ fold (with_token l.folders l.process) nothing_said l.parts
