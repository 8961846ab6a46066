use Rattle.std.proofs.Common.{sym, subst}
use Rattle.tup_lock.specs.Held.{OwnStep}
use Rattle.tup_lock.specs.Within.{Ran}
use Rattle.tup_lock.proofs.Entering.{ran_at}
use Rattle.tup_lock.proofs.seat_lock.SeatLock.with.Goals as goal

pub leave-requires : goal.leave-requires
leave-requires g c =
    let s = c.args.seat.now in
    let value = c.enter-value.result in
    let inside = c.enter-value.ensures.inside in
    let own = c.requires.keeps value c.f-x.new.arg2 c.f-x.result c.enter-value.ensures.found (ran_at g.F.FnOnce _ _ _ _ _ c.f-x.ensures) in
    record { inside = (value, s, inside, subst (λ n. OwnStep g.T.Logged n value c.f-x.new.arg2) (sym inside.number) own) }

pub returns-clause-ran : goal.returns-clause-ran
returns-clause-ran g c =
    let value = c.enter-value.result in (
      value,
      c.enter-value.ensures.found,
      subst (Ran g.F.FnOnce c.args.f value c.args.seat.now.number c.f-x.result) (sym c.leave.ensures.left.1) (ran_at g.F.FnOnce _ _ _ _ _ c.f-x.ensures),
    )
