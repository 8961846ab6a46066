use Rattle.std.proofs.Common.{◌≡◌, ◌+◌, drop}
use Rattle.std.specs.List.{position_or_len}
use Rattle.tup_path.specs.Order.{same_path}
use Rattle.tup_top.proofs.circle.place_of.Given as goal

abbrev pub invariant-loop-at : goal.invariant-loop-at
invariant-loop-at l = l.at + position_or_len (λ other. same_path other l.folder) (drop l.at l.folders) ≡ position_or_len (λ other. same_path other l.folder) l.folders
