use Rattle.std.proofs.Common.{◌≡◌}
use Rattle.tup_readers.proofs.seen.SeenFiles.listed.Given as goal

abbrev pub invariant-loop-file : goal.invariant-loop-file
invariant-loop-file l = l.files.items ≡ l.yielded
