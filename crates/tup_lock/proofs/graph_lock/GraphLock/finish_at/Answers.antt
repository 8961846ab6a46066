use Rattle.std.proofs.Common.{sym, ap, ◌∙◌, subst, arith}
use Rattle.tup_board.specs.Board.{plan_of}
use Rattle.tup_lock.specs.Boards.{board_log}
use Rattle.tup_lock.specs.Held.{OwnStep}
use Rattle.tup_runner.specs.Report.{asks_of, ended_of}
use Rattle.tup_board.specs.Entries.{EndsBy, IsReportBy}
use Rattle.tup_board.proofs.CallsAt.{ends_by, report_by}
use Rattle.tup_lock.proofs.Boards.{finish_steps, same_entries, same_plan, still_known}
use Rattle.tup_lock.proofs.Leaving.{adds_after}
use Rattle.tup_lock.proofs.graph_lock.GraphLock.finish_at.Goals as goal

pub finish-finished-requires-clause-plan : goal.finish-finished-requires-clause-plan
finish-finished-requires-clause-plan g c = c.requires.plan ∙ sym (same_plan g.S.Site c.args.seat.now.number c.args.seat.now.last.value c.enter-board.result c.enter-board.ensures.found)

pub leave-requires : goal.leave-requires
leave-requires g c =
    let inside = c.enter-board.ensures.inside in record {
      inside = (
        c.enter-board.result,
        c.args.seat.now,
        inside,
        subst (λ n. OwnStep (board_log g.S.Site) n c.enter-board.result c.finish-finished.new.self) (sym inside.number) (finish_steps g.S.Site c.args.seat.now.number c.enter-board.result c.finish-finished.new.self (ended_of c.args.report.now) c.finish-finished.result c.finish-finished.ensures.finishes c.finish-finished.ensures.touches.opening c.finish-finished.ensures.known c.finish-finished.ensures.cause),
      );
    }

pub returns-clause-same : goal.returns-clause-same
returns-clause-same g c = (
  c.leave.ensures.left.0 ∙ c.enter-board.ensures.inside.number,
  ap plan_of c.leave.ensures.left.1 ∙ ap (λ o. o.plan) c.finish-finished.ensures.touches.opening ∙ same_plan g.S.Site c.args.seat.now.number c.args.seat.now.last.value c.enter-board.result c.enter-board.ensures.found,
)

pub finish-finished-requires-clause-report : goal.finish-finished-requires-clause-report
finish-finished-requires-clause-report g c =
    let n = c.args.seat.now.number in
    let found = c.enter-board.ensures.found in
    let less = c.requires.own.is.number in
    let within = c.args.self.now.within.1 in
    report_by n c.enter-board.result (omega arith) c.args.plan.now (c.requires.plan ∙ sym (same_plan g.S.Site n c.args.seat.now.last.value c.enter-board.result found)) g.S.Site
    c.args.report.now.dir c.args.report.now.text (asks_of c.args.report.now)
    (subst (λ l. IsReportBy c.args.plan.now l c.args.report.now.dir c.args.report.now.text (asks_of c.args.report.now)) (sym (same_entries g.S.Site n c.args.seat.now.last.value c.enter-board.result found)) c.requires.report)
    (still_known g.S.Site n c.args.seat.now.last.value c.enter-board.result found (asks_of c.args.report.now) c.requires.known)

pub returns-clause-adds : goal.returns-clause-adds
returns-clause-adds g c =
    let n = c.args.seat.now.number in
    let found = c.enter-board.ensures.found in
    let less = c.requires.own.is.number in
    let within = c.args.self.now.within.1 in
    let same = same_entries g.S.Site n c.args.seat.now.last.value c.enter-board.result found in
    adds_after n c.enter-board.result c.args.seat.now c.finish-finished.new.self c.leave.new.seat (c.leave.ensures.left.0 ∙ c.enter-board.ensures.inside.number) c.leave.ensures.left.1 same
    (λ l added. EndsBy c.args.plan.now l n (ended_of c.args.report.now) c.finish-finished.result added)
    (ends_by n c.enter-board.result (omega arith) c.args.plan.now (c.requires.plan ∙ sym (same_plan g.S.Site n c.args.seat.now.last.value c.enter-board.result found)) c.finish-finished.new.self
    (subst (λ l. IsReportBy c.args.plan.now l c.args.report.now.dir c.args.report.now.text (asks_of c.args.report.now)) (sym same) c.requires.report).it
    (ended_of c.args.report.now) c.finish-finished.result c.finish-finished.ensures.finishes)
