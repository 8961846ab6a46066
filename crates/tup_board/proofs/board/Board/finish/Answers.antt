use Rattle.tup_runner.specs.Report.{ended_of}
use Rattle.tup_board.proofs.Judging.{files_at, judged_of, memory_ends, verdict_at}
use Rattle.tup_board.proofs.Kept.{sound_seen}
use Rattle.tup_board.proofs.board.Board.finish.Goals as goal

pub finish_well-requires-clause-judged : goal.finish_well-requires-clause-judged
finish_well-requires-clause-judged g c =
    let ended = ended_of c.args.report.now in
    let rule = c.rule_of.result.now in
    files_at c.args.self.now c.args.seat ended rule c.rule_of.ensures _ _ (judged_of rule c.ended.result.now ended c.ended.ensures _ _ c.in-Ok-Good-default.ensures) c.in-Ok-Good-default.field-0-0-is

pub finish_badly-requires-clause-judged : goal.finish_badly-requires-clause-judged
finish_badly-requires-clause-judged g c =
    let ended = ended_of c.args.report.now in
    let rule = c.rule_of.result.now in
    verdict_at c.args.self.now c.args.seat ended rule c.rule_of.ensures _ _ (judged_of rule c.ended.result.now ended c.ended.ensures _ _ c.in-Ok.ensures)

pub returns-in-Err-clause-touches : goal.returns-in-Err-clause-touches
returns-in-Err-clause-touches g c =
    let sound = sound_seen g.S.Site g.R.Runner _ _ c.self.invariant.1 c.self.view_is in
    (memory_ends g.S.Site g.R.Runner c.args.self.now sound c.args.seat (ended_of c.args.report.now) c.requires.report.it).touches
