use Rattle.std.proofs.Common.{take}
use Rattle.tup_link.specs.Groups.{HasMembers}
use Rattle.tup_link.specs.Placed.{drafts_of}
use Rattle.tup_link.proofs.groups.groups.Given as goal

abbrev pub invariant-loop-one : goal.invariant-loop-one
invariant-loop-one l = HasMembers (drafts_of (take l.one-index l.all)) l.groups
