use Rattle.std.proofs.Common.{◌≡◌, drop}
use Rattle.std.specs.List.{fold}
use Rattle.tup_strace.specs.Folders.{none_entered}
use Rattle.tup_strace.specs.Watch.{with_birth}
use Rattle.tup_strace.proofs.watch.folders_of.Given as goal

abbrev pub invariant-loop-call : goal.invariant-loop-call
invariant-loop-call l = fold with_birth l.folders (drop l.call-index l.calls) ≡ fold with_birth (none_entered l.dir) l.calls
