use Rattle.std.proofs.Common.{◌≡◌, ◌≤◌, ◌+◌, ◌-◌, length, drop}
use Rattle.tup_path.specs.Show as specs
use Rattle.tup_path.proofs.show.shared.Given as goal

abbrev pub invariant-loop-count : goal.invariant-loop-count
invariant-loop-count l = (l.count + specs.shared (drop l.count l.left) (drop l.count l.right) ≡ specs.shared l.left l.right) × (l.count ≤ length l.left) × (l.count ≤ length l.right)

abbrev pub decreases-loop-count : goal.decreases-loop-count
decreases-loop-count l = length l.left - l.count
