use Rattle.std.proofs.Common.{[], ◌∷◌, ◌++◌, None, sym, ap, ◌∙◌, subst, arith}
use Rattle.tup_board.specs.Board.{plan_of}
use Rattle.tup_lock.specs.Boards.{board_log}
use Rattle.tup_lock.specs.Held.{OwnStep}
use Rattle.tup_core.specs.declared.event.CoreEvent.TheVariants.{Finish}
use Rattle.tup_board.specs.Entries.{WasDeniedBy, runs_after}
use Rattle.tup_board.proofs.Known.{keeps_all}
use Rattle.tup_board.proofs.CallsAt.{denied_adds, means_by}
use Rattle.tup_lock.proofs.Boards.{denied_steps, more_known, same_entries, same_plan}
use Rattle.tup_lock.proofs.Leaving.{denied_there, left_entries}
use Rattle.tup_lock.proofs.graph_lock.GraphLock.finish_denied_at.Goals as goal

pub finish_denied-requires-clause-plan : goal.finish_denied-requires-clause-plan
finish_denied-requires-clause-plan g c = c.requires.plan ∙ sym (same_plan g.S.Site c.args.seat.now.number c.args.seat.now.last.value c.enter-board.result c.enter-board.ensures.found)

pub leave-requires : goal.leave-requires
leave-requires g c =
    let inside = c.enter-board.ensures.inside in record {
      inside = (
        c.enter-board.result,
        c.args.seat.now,
        inside,
        subst (λ n. OwnStep (board_log g.S.Site) n c.enter-board.result c.finish_denied.new.self) (sym inside.number) (denied_steps g.S.Site c.args.seat.now.number c.enter-board.result c.finish_denied.new.self c.finish_denied.ensures.rest c.finish_denied.ensures.ends),
      );
    }

pub returns-clause-same : goal.returns-clause-same
returns-clause-same g c = (
  c.leave.ensures.left.0 ∙ c.enter-board.ensures.inside.number,
  ap plan_of c.leave.ensures.left.1 ∙ ap plan_of c.finish_denied.ensures.rest ∙ same_plan g.S.Site c.args.seat.now.number c.args.seat.now.last.value c.enter-board.result c.enter-board.ensures.found,
)

pub finish_denied-requires-clause-denied : goal.finish_denied-requires-clause-denied
finish_denied-requires-clause-denied g c =
    let n = c.args.seat.now.number in
    let found = c.enter-board.result in
    let is = c.enter-board.ensures.found in
    let less = c.requires.own.is.number in
    let within = c.args.self.now.within.1 in
    let same = same_entries g.S.Site n c.args.seat.now.last.value found is in
    means_by n found (omega arith) c.args.plan.now (c.requires.plan ∙ sym (same_plan g.S.Site n c.args.seat.now.last.value found is)) g.S.Site g.R.Runner
    (subst (WasDeniedBy c.args.plan.now) (sym same) c.requires.denied)
    (denied_there g.S.Site g.R.Runner n c.args.plan.now c.args.seat.now.last.value found same (keeps_all (g.S.Site.known c.args.seat.now.last.value.site) (g.S.Site.known found.site)) (more_known g.S.Site n c.args.seat.now.last.value found is) c.requires.means)

pub returns-clause-adds : goal.returns-clause-adds
returns-clause-adds g c = λ was.
    let n = c.args.seat.now.number in
    let found = c.enter-board.result in
    let is = c.enter-board.ensures.found in
    let less = c.requires.own.is.number in
    let within = c.args.self.now.within.1 in
    let same = same_entries g.S.Site n c.args.seat.now.last.value found is in
    left_entries n c.finish_denied.new.self c.leave.new.seat (c.leave.ensures.left.0 ∙ c.enter-board.ensures.inside.number) c.leave.ensures.left.1
    ∙ denied_adds n found (omega arith) c.args.plan.now (c.requires.plan ∙ sym (same_plan g.S.Site n c.args.seat.now.last.value found is)) c.finish_denied.new.self c.finish_denied.ensures.ends
    (record { running = was.running; rule = was.rule; text = was.text; verdict = was.verdict; runs = ap (runs_after None) same ∙ was.runs; placed = was.placed; denied = was.denied })
    ∙ ap (λ l. l ++ Finish n was.verdict [] ∷ []) same
