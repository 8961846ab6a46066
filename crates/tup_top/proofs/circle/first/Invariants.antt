use Rattle.std.proofs.Common.{◌≡◌, fold, take}
use Rattle.tup_compare.specs.Compared.{first_of}
use Rattle.tup_top.proofs.circle.first.Given as goal

abbrev pub invariant-loop-other : goal.invariant-loop-other
invariant-loop-other l = l.first ≡ fold first_of l.folder (take l.other-index l.others)
