use Rattle.std.proofs.Common.{◌-◌}
use Rattle.tup_schedule.proofs.MarksLaws.{IsLeftmost}
use Rattle.tup_schedule.proofs.marks.Marks.first.Given as goal

abbrev pub invariant-down : goal.invariant-down
invariant-down l = IsLeftmost l.self l.node

abbrev pub decreases-down : goal.decreases-down
decreases-down l = l.self.places - l.node
