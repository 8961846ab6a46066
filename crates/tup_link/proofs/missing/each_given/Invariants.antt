use Rattle.std.proofs.Common.{◌≡◌, drop}
use Rattle.tup_link.specs.Faults.{missing_group}
use Rattle.tup_link.specs.Groups.{listed}
use Rattle.tup_link.proofs.missing.each_given.Given as goal

abbrev pub invariant-loop-group : goal.invariant-loop-group
invariant-loop-group l = missing_group (listed l.groups) (drop l.group-index l.taken) ≡ missing_group (listed l.groups) l.taken
