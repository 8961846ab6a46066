use Rattle.std.specs.Prelude.{◌↔◌, ℕ, ◌-◌, drop, length}
use Rattle.tup_why.specs.Reason.{GoesOn}
use Rattle.tup_why.proofs.checking.goes_on.Given as goal

abbrev pub invariant-loop-at : goal.invariant-loop-at
invariant-loop-at l = (last : ℕ) → GoesOn l.nodes l.plan l.fn.first l.links last ↔ GoesOn l.nodes l.plan l.number (drop l.at l.links) last

abbrev pub decreases-loop-at : goal.decreases-loop-at
decreases-loop-at l = length l.links - l.at
