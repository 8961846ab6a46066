use Rattle.std.proofs.Common.{List, ◌++◌, sym, ap, ◌∙◌, subst, arith}
use Rattle.std.specs.Prelude.{Contains}
use Rattle.tup_path.specs.Name.{Content}
use Rattle.tup_board.specs.Board.{BoardState, plan_of}
use Rattle.tup_lock.specs.Boards.{board_log}
use Rattle.tup_lock.specs.Held.{OwnStep}
use Rattle.tup_board.specs.Calls.{ask_events}
use Rattle.tup_board.specs.Entries.{GoesOnBy}
use Rattle.tup_board.proofs.Known.{keeps_all}
use Rattle.tup_board.proofs.CallsAt.{ask_adds, goes_by, told_known}
use Rattle.tup_lock.proofs.Boards.{ask_steps, more_known, same_entries, same_plan}
use Rattle.tup_lock.proofs.Leaving.{left_entries}
use Rattle.tup_lock.proofs.graph_lock.GraphLock.ask_at.Goals as goal

pub ask-asked-requires-clause-plan : goal.ask-asked-requires-clause-plan
ask-asked-requires-clause-plan g c = c.requires.plan ∙ sym (same_plan g.S.Site c.args.seat.now.number c.args.seat.now.last.value c.enter-board.result c.enter-board.ensures.found)

pub leave-requires : goal.leave-requires
leave-requires g c =
    let inside = c.enter-board.ensures.inside in record {
      inside = (
        c.enter-board.result,
        c.args.seat.now,
        inside,
        subst (λ n. OwnStep (board_log g.S.Site) n c.enter-board.result c.ask-asked.new.self) (sym inside.number) (ask_steps g.S.Site c.args.seat.now.number c.enter-board.result c.ask-asked.new.self c.args.text.now c.ask-asked.result c.ask-asked.ensures.asked c.ask-asked.ensures.known c.ask-asked.ensures.cause),
      );
    }

pub returns-clause-same : goal.returns-clause-same
returns-clause-same g c = (
  c.leave.ensures.left.0 ∙ c.enter-board.ensures.inside.number,
  ap plan_of c.leave.ensures.left.1 ∙ ap plan_of c.ask-asked.ensures.asked.adds ∙ same_plan g.S.Site c.args.seat.now.number c.args.seat.now.last.value c.enter-board.result c.enter-board.ensures.found,
)

pub ask-asked-requires-clause-runs : goal.ask-asked-requires-clause-runs
ask-asked-requires-clause-runs g c =
    let n = c.args.seat.now.number in
    let less = c.requires.own.is.number in
    let within = c.args.self.now.within.1 in
    let found = c.enter-board.ensures.found in
    goes_by n c.enter-board.result (omega arith) c.args.plan.now (c.requires.plan ∙ sym (same_plan g.S.Site n c.args.seat.now.last.value c.enter-board.result found))
    (subst (GoesOnBy c.args.plan.now) (sym (same_entries g.S.Site n c.args.seat.now.last.value c.enter-board.result found)) c.requires.runs)

pub returns-clause-adds : goal.returns-clause-adds
returns-clause-adds g c =
    let n = c.args.seat.now.number in
    left_entries n c.ask-asked.new.self c.leave.new.seat (c.leave.ensures.left.0 ∙ c.enter-board.ensures.inside.number) c.leave.ensures.left.1
    ∙ ask_adds n c.enter-board.result c.ask-asked.new.self c.args.text.now c.ask-asked.result c.ask-asked.ensures.asked
    ∙ ap (λ l. l ++ ask_events n c.args.text.now c.ask-asked.result) (same_entries g.S.Site n c.args.seat.now.last.value c.enter-board.result c.enter-board.ensures.found)

pub returns-clause-told : goal.returns-clause-told
returns-clause-told g c = λ tells content is.
    subst (λ (b : BoardState g.row.S.Denot). Contains (g.S.Site.known b.site) content) (sym c.leave.ensures.left.1)
    (told_known c.args.seat.now.number c.enter-board.result c.ask-asked.new.self g.S.Site c.args.text.now c.ask-asked.result content (g.met.S.Site.knows_tree c.enter-board.result.site tells) is c.ask-asked.ensures.for_it
    (c.ask-asked.ensures.told tells) (c.ask-asked.ensures.known tells))

pub returns-clause-known : goal.returns-clause-known
returns-clause-known g c = λ tells content had.
    let found = c.enter-board.result in
    subst (λ (b : BoardState g.row.S.Denot). Contains (g.S.Site.known b.site) content) (sym c.leave.ensures.left.1)
    (subst (λ (known : List Content). Contains known content) (sym (c.ask-asked.ensures.known tells))
    (keeps_all (g.S.Site.known c.args.seat.now.last.value.site) (g.S.Site.known found.site) (more_known g.S.Site c.args.seat.now.number c.args.seat.now.last.value found c.enter-board.ensures.found tells) content had))
