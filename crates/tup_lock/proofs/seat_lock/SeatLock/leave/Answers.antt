use Rattle.std.proofs.Common.{rules, ◌≡◌, [], ◌∷◌, ap, sym, subst, ◌∙◌}
use Rattle.tup_lock.proofs.seat_lock.SeatLock.leave.Goals as goal

pub give-requires-clause-holds : goal.give-requires-clause-holds
give-requires-clause-holds g c =
    let h = c.requires.inside in
    let s = c.args.seat.now in
    let holds = h.2.holds in (
      s.number,
      s.last.value,
      h.0,
      (λ i. (record { lasts = s.seated i; count = s.place.me.0.count; found = ap (λ m. m.0.found) holds i }, ap (λ m. m.1) holds i)),
      h.3,
    )

pub invariant_of-seat : goal.invariant_of-seat
invariant_of-seat g c =
    let s = c.args.seat.now in
    let same : c.of.result.value ≡ c.args.value = search rules in
    record { seated = ap (λ m. m.0.lasts) (c.give.ensures.left s.number s.last.value s.seated) ∙ ap (λ t. (s.number, t) ∷ []) (sym same) }

pub returns-clause-own : goal.returns-clause-own
returns-clause-own g c =
    let s = c.args.seat.now in
    let h = c.requires.inside in
    let is = h.2.is in
    let left = c.give.ensures.left s.number s.last.value s.seated in
    let value : c.of.result.value ≡ c.args.value = search rules in
    record {
      is = record {
        table = c.give.ensures.own ∙ is.table;
        number = is.number;
        first = λ zero. ap (λ m. m.0.count) left ∙ is.first zero;
        others = λ other. ap (λ m. m.0.count) left ∙ is.others other;
        began = ap g.T.Logged.origin value ∙ h.3.later.began ∙ h.2.began;
        stood = λ count it. h.2.stood count (h.3.later.stood count (subst (λ (t : g.row.T.Denot). g.T.Logged.stood t count) value it));
      };
      slots = ap (λ m. m.1) left;
    }

pub give-requires-clause-own : goal.give-requires-clause-own
give-requires-clause-own g c = c.requires.inside.2.is.table
