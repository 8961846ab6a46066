use Rattle.std.proofs.Common.{take}
use Rattle.tup_link.specs.Groups.{GivesAll}
use Rattle.tup_link.proofs.groups.give_all.Given as goal

abbrev pub invariant-loop-path : goal.invariant-loop-path
invariant-loop-path l = GivesAll l.group (take l.path-index l.paths) l.fn.groups l.groups
