use Rattle.tup_schedule.proofs.MarksLaws.{IsRaised}
use Rattle.tup_schedule.proofs.marks.Marks.set.Given as goal

abbrev pub invariant-up : goal.invariant-up
invariant-up l = IsRaised l.fn.self l.self l.place l.up l.node

abbrev pub decreases-up : goal.decreases-up
decreases-up l = l.node
