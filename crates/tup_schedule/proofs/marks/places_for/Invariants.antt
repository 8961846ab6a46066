use Rattle.std.proofs.Common.{◌-◌, ◌^◌, ◌≤◌, ◌<◌}
use Rattle.tup_schedule.specs.Marks.{IsPower}
use Rattle.tup_schedule.proofs.marks.places_for.Given as goal

abbrev pub invariant-double : goal.invariant-double
invariant-double l = IsPower l.places × (l.places ≤ 2 ^ 33) × (0 < l.places)

abbrev pub decreases-double : goal.decreases-double
decreases-double l = l.count - l.places
