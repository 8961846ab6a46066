use Rattle.tup_workers.specs.Works.{WorksOn}
use Rattle.tup_workers.proofs.claiming.work.Given as goal

abbrev pub invariant-loop : goal.invariant-loop
invariant-loop g l = WorksOn (g.L.Shared.belongs l.lock) g.L.Shared.number_of g.L.Shared.plan_of g.L.Shared.entries g.L.Runner.Runner l.plan l.fn.hand l.hand
