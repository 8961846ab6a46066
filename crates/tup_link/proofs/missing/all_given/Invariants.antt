use Rattle.std.proofs.Common.{◌≡◌, drop}
use Rattle.tup_link.specs.Faults.{missing_group, taken}
use Rattle.tup_link.specs.Groups.{listed}
use Rattle.tup_link.specs.Placed.{drafts_of}
use Rattle.tup_link.proofs.missing.all_given.Given as goal

abbrev pub invariant-loop-one : goal.invariant-loop-one
invariant-loop-one l = missing_group (listed l.groups) (taken (drafts_of (drop l.one-index l.all))) ≡ missing_group (listed l.groups) (taken (drafts_of l.all))
