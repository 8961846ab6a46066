use Rattle.std.specs.Prelude.{reverse}
use Rattle.tup_graph.specs.Graph.{GraphState}
use Rattle.tup_why.specs.Cause.{AreCauses}
use Rattle.tup_why.specs.Reason.{GoesOn}
use Rattle.tup_why.specs.Waiting.{WaitsOver}
use Rattle.tup_why.proofs.reasons.Reasons.trace.Given as goal

abbrev pub invariant-loop-steps : goal.invariant-loop-steps
invariant-loop-steps l = (g : GraphState) → AreCauses g l.plan l.self → GoesOn g l.plan l.at (reverse l.links.items) l.number × WaitsOver l.steps g l.plan l.number l.at
