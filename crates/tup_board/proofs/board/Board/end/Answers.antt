use Rattle.std.proofs.Common.{sym, ◌∙◌}
use Rattle.std.proofs.lemmas.Bool.{false≢true}
use Rattle.tup_runner.specs.Report.{ended_of}
use Rattle.tup_board.proofs.Draining.{end_left, memory_kept, memory_left, steady_end, steady_memory}
use Rattle.tup_board.proofs.board.Board.end.Goals as goal

pub returns-then-is_memory-clause-left : goal.returns-then-is_memory-clause-left
returns-then-is_memory-clause-left g c =
    memory_left 0 c.args.self.now c.finish-ended.new.self c.stop.new.self c.requires.going c.finish-ended.ensures.touches.opening
    (memory_kept 0 c.args.self.now c.finish-ended.new.self (ended_of c.args.report.now) c.finish-ended.result (c.is_memory.ensures.0 c.if-is_memory.true) c.finish-ended.ensures.finishes) c.stop.ensures.stops c.stop.ensures.rest

pub returns-clause-left : goal.returns-clause-left
returns-clause-left g c =
    end_left 0 c.args.self.now c.finish-ended.new.self c.requires.report.it.it.running (ended_of c.args.report.now) c.finish-ended.result c.requires.report.it.it.runs.here c.finish-ended.ensures.touches.opening
    (λ e. false≢true (sym c.if-is_memory.false ∙ c.is_memory.ensures.1 e)) c.finish-ended.ensures.finishes

pub returns-then-is_memory-clause-steady : goal.returns-then-is_memory-clause-steady
returns-then-is_memory-clause-steady g c =
    steady_memory g.S.Site c.args.self.now c.finish-ended.new.self c.stop.new.self c.finish-ended.result (c.is_memory.ensures.0 c.if-is_memory.true) c.finish-ended.ensures.cause c.stop.ensures.rest

pub returns-clause-steady : goal.returns-clause-steady
returns-clause-steady g c =
    steady_end g.S.Site 0 c.args.self.now c.finish-ended.new.self (ended_of c.args.report.now) c.finish-ended.result c.finish-ended.ensures.touches.opening c.finish-ended.ensures.finishes c.finish-ended.ensures.cause
