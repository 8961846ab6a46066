use Rattle.std.proofs.Common.{sym, ap, ◌∙◌, subst, arith}
use Rattle.tup_board.specs.Board.{plan_of}
use Rattle.tup_lock.specs.Boards.{board_log}
use Rattle.tup_lock.specs.Held.{OwnStep}
use Rattle.tup_board.specs.Entries.{StopsBy}
use Rattle.tup_board.proofs.CallsAt.{stop_adds}
use Rattle.tup_lock.proofs.Boards.{same_entries, same_plan, stop_steps}
use Rattle.tup_lock.proofs.Leaving.{adds_after}
use Rattle.tup_lock.proofs.graph_lock.GraphLock.stop_at.Goals as goal

pub stop-requires-clause-plan : goal.stop-requires-clause-plan
stop-requires-clause-plan g c = c.requires.plan ∙ sym (same_plan g.S.Site c.args.seat.now.number c.args.seat.now.last.value c.enter-board.result c.enter-board.ensures.found)

pub leave-requires : goal.leave-requires
leave-requires g c =
    let inside = c.enter-board.ensures.inside in record {
      inside = (
        c.enter-board.result,
        c.args.seat.now,
        inside,
        subst (λ n. OwnStep (board_log g.S.Site) n c.enter-board.result c.stop.new.self) (sym inside.number) (stop_steps g.S.Site c.args.seat.now.number c.enter-board.result c.stop.new.self c.stop.ensures.rest c.args.cause c.stop.ensures.stops),
      );
    }

pub returns-clause-same : goal.returns-clause-same
returns-clause-same g c = (
  c.leave.ensures.left.0 ∙ c.enter-board.ensures.inside.number,
  ap plan_of c.leave.ensures.left.1 ∙ ap plan_of c.stop.ensures.rest ∙ same_plan g.S.Site c.args.seat.now.number c.args.seat.now.last.value c.enter-board.result c.enter-board.ensures.found,
)

pub stop-requires-clause-seat : goal.stop-requires-clause-seat
stop-requires-clause-seat g c = let less = c.requires.own.is.number in let within = c.args.self.now.within.1 in omega arith

pub returns-clause-adds : goal.returns-clause-adds
returns-clause-adds g c =
    let n = c.args.seat.now.number in
    adds_after n c.enter-board.result c.args.seat.now c.stop.new.self c.leave.new.seat (c.leave.ensures.left.0 ∙ c.enter-board.ensures.inside.number) c.leave.ensures.left.1
    (same_entries g.S.Site n c.args.seat.now.last.value c.enter-board.result c.enter-board.ensures.found)
    (λ l added. StopsBy l n c.args.cause added)
    (stop_adds n c.enter-board.result c.stop.new.self c.args.cause c.stop.ensures.stops)
