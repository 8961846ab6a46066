use Rattle.std.proofs.Common.{◌≡◌, drop}
use Rattle.std.specs.List.{fold}
use Rattle.tup_strace.specs.Watch.{followed, watch_begun}
use Rattle.tup_strace.proofs.watch.watched.Given as goal

abbrev pub invariant-loop-call : goal.invariant-loop-call
invariant-loop-call l = fold followed l.watch (drop l.call-index l.calls) ≡ fold followed (watch_begun l.fn.folders) l.calls
