use Rattle.std.proofs.Common.{◌≡◌, map, take}
use Rattle.tup_core.specs.Honest.{stamped}
use Rattle.tup_board.proofs.record.stamps_of.Given as goal

abbrev pub invariant-loop-file : goal.invariant-loop-file
invariant-loop-file l = l.stamps ≡ map stamped (take l.file-index l.files)
