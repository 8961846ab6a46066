use Rattle.std.proofs.Common.{◌++◌, None, sym, ap, ◌∙◌, subst, arith}
use Rattle.tup_board.specs.Board.{plan_of}
use Rattle.tup_lock.specs.Boards.{board_log}
use Rattle.tup_lock.specs.Held.{OwnStep}
use Rattle.tup_board.specs.Entries.{claim_entries, runs_after}
use Rattle.tup_board.proofs.CallsAt.{claim_adds, claims_within, free_old}
use Rattle.tup_lock.proofs.Boards.{claim_steps, same_entries, same_plan}
use Rattle.tup_lock.proofs.Leaving.{left_entries}
use Rattle.tup_lock.proofs.graph_lock.GraphLock.claim_at.Goals as goal

pub claim-claimed-requires-clause-plan : goal.claim-claimed-requires-clause-plan
claim-claimed-requires-clause-plan g c = c.requires.plan ∙ sym (same_plan g.S.Site c.args.seat.now.number c.args.seat.now.last.value c.enter-board.result c.enter-board.ensures.found)

pub leave-requires : goal.leave-requires
leave-requires g c =
    let inside = c.enter-board.ensures.inside in record {
      inside = (
        c.enter-board.result,
        c.args.seat.now,
        inside,
        subst (λ n. OwnStep (board_log g.S.Site) n c.enter-board.result c.claim-claimed.new.self) (sym inside.number) (claim_steps g.S.Site c.args.seat.now.number c.enter-board.result c.claim-claimed.new.self c.claim-claimed.ensures.rest c.claim-claimed.result c.claim-claimed.ensures.claims),
      );
    }

pub returns-clause-same : goal.returns-clause-same
returns-clause-same g c = (
  c.leave.ensures.left.0 ∙ c.enter-board.ensures.inside.number,
  ap plan_of c.leave.ensures.left.1 ∙ ap plan_of c.claim-claimed.ensures.rest ∙ same_plan g.S.Site c.args.seat.now.number c.args.seat.now.last.value c.enter-board.result c.enter-board.ensures.found,
)

pub claim-claimed-requires-clause-seat : goal.claim-claimed-requires-clause-seat
claim-claimed-requires-clause-seat g c = let less = c.requires.own.is.number in let within = c.args.self.now.within.1 in omega arith

pub claim-claimed-requires-clause-free : goal.claim-claimed-requires-clause-free
claim-claimed-requires-clause-free g c =
    free_old c.args.seat.now.number c.enter-board.result
    (ap (runs_after None) (same_entries g.S.Site c.args.seat.now.number c.args.seat.now.last.value c.enter-board.result c.enter-board.ensures.found) ∙ c.requires.free)

pub returns-clause-adds : goal.returns-clause-adds
returns-clause-adds g c =
    let n = c.args.seat.now.number in
    left_entries n c.claim-claimed.new.self c.leave.new.seat (c.leave.ensures.left.0 ∙ c.enter-board.ensures.inside.number) c.leave.ensures.left.1
    ∙ claim_adds n c.enter-board.result c.claim-claimed.new.self c.claim-claimed.result c.claim-claimed.ensures.claims
    ∙ ap (λ l. l ++ claim_entries n c.claim-claimed.result) (same_entries g.S.Site n c.args.seat.now.last.value c.enter-board.result c.enter-board.ensures.found)

pub returns-clause-rule : goal.returns-clause-rule
returns-clause-rule g c =
    claims_within c.args.seat.now.number c.enter-board.result c.claim-claimed.new.self c.args.plan.now
    (c.requires.plan ∙ sym (same_plan g.S.Site c.args.seat.now.number c.args.seat.now.last.value c.enter-board.result c.enter-board.ensures.found))
    c.claim-claimed.result c.claim-claimed.ensures.claims
