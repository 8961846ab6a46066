use Rattle.std.proofs.Common.{ℕ, ap, subst, ◌∙◌}
use Rattle.std.specs.Prelude.{None}
use Rattle.tup_core.specs.declared.event.Cause.TheVariants.{Memory}
use Rattle.tup_runner.specs.Report.{ended_of}
use Rattle.tup_board.specs.Entries.{runs_after}
use Rattle.tup_workers.specs.Works.{Stopped}
use Rattle.tup_workers.proofs.Ended.{ends_for_memory, ends_well, nothing_ended}
use Rattle.tup_workers.proofs.performing.ended.Goals as goal

pub stopped-requires-clause-runs : goal.stopped-requires-clause-runs
stopped-requires-clause-runs g c κs lives =
    let adds = c.finish-finished.ensures.adds in
    let same = nothing_ended (g.L.Shared.number_of c.args.seat.now) (g.L.Shared.entries c.args.seat.now) (g.L.Shared.entries c.finish-finished.new.seat) c.args.plan.now (ended_of c.args.report.now) c.finish-finished.result (c.is_memory.ensures.0 c.if-is_memory.true) adds.0 adds.1 adds.2 in
    (c.requires.report.it.running, ap (runs_after None) same ∙ c.requires.report.it.runs)

pub returns-then-is_memory-clause-ends : goal.returns-then-is_memory-clause-ends
returns-then-is_memory-clause-ends g c =
    let adds = c.finish-finished.ensures.adds in
    let same = nothing_ended (g.L.Shared.number_of c.args.seat.now) (g.L.Shared.entries c.args.seat.now) (g.L.Shared.entries c.finish-finished.new.seat) c.args.plan.now (ended_of c.args.report.now) c.finish-finished.result (c.is_memory.ensures.0 c.if-is_memory.true) adds.0 adds.1 adds.2 in
    ends_for_memory (g.L.Shared.number_of c.args.seat.now) (g.L.Shared.entries c.args.seat.now) (g.L.Shared.entries c.stopped.new.seat) (g.L.Shared.entries c.finish-finished.new.seat) same c.stopped.result
    (subst (λ (n : ℕ). Stopped n Memory (g.L.Shared.entries c.finish-finished.new.seat) (g.L.Shared.entries c.stopped.new.seat) c.stopped.result) c.finish-finished.ensures.same.0 c.stopped.ensures.stops)

pub returns-clause-ends : goal.returns-clause-ends
returns-clause-ends g c =
    let adds = c.finish-finished.ensures.adds in
    ends_well (g.L.Shared.number_of c.args.seat.now) (g.L.Shared.entries c.args.seat.now) (g.L.Shared.entries c.finish-finished.new.seat) c.args.plan.now (ended_of c.args.report.now) c.finish-finished.result
    (λ is. let yes = c.is_memory.ensures.1 is in let no = c.if-is_memory.false in cc) adds.0 adds.1 adds.2
