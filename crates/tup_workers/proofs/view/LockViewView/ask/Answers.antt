use mathlib.Core.Logic.{∥∥₁_elim}
use Rattle.std.proofs.Common.{◌≡◌, Some, refl, sym, ap, ◌∙◌}
use Rattle.std.specs.Prelude.{slice_get}
use Rattle.std.proofs.lemmas.Bool.{false≢true}
use Rattle.tup_runner.specs.Refusal.{refused as refused_of}
use Rattle.tup_board.specs.Seat.{refusal_of}
use Rattle.tup_board.proofs.Seeing.{refuses_by}
use Rattle.tup_workers.proofs.Seeing.{came_err, came_ok, granted_so, may_ask, rule_on, seat_kept}
use Rattle.tup_workers.proofs.view.LockViewView.ask.Goals as goal

pub ask_there-asked-requires-clause-belongs : goal.ask_there-asked-requires-clause-belongs
ask_there-asked-requires-clause-belongs g c =
    let view = c.args.self.now in
    ∥∥₁_elim view.belongs (g.met.K.Asking.once view.lock.now view.seat.now) (λ at. at)

pub ask_there-asked-requires-clause-runs : goal.ask_there-asked-requires-clause-runs
ask_there-asked-requires-clause-runs g c =
    let view = c.args.self.now in
    may_ask view.plan.now (g.K.Asking.told_at view.seat.now).entries view.rule.now (view.goes c.requires) view.placed

pub invariant_of-self : goal.invariant_of-self
invariant_of-self g c =
    let view = c.args.self.now in
    let old = g.K.Asking.told_at view.seat.now in
    let new = g.K.Asking.told_at c.ask_there-asked.new.seat in
    let number = g.K.Asking.number_at view.seat.now in
    let e = c.ask_there-asked.ensures in record {
      belongs = ∣ e.belongs ∣₁;
      of_board = view.of_board ∙ sym e.same.1;
      placed = rule_on g.K.Asking.tells_known number c.args.text.now old new e.known (λ rule. slice_get view.plan.now.rules rule ≡ Some view.rule.now) view.placed c.ask_there-asked.result e.adds;
      goes = granted_so g.K.Asking.tells_known number c.args.text.now old new e.known c.ask_there-asked.result e.told e.adds (refusal_of view.refused.now) (refusal_of c.refusal.result) c.requires c.refusal.ensures (view.goes c.requires);
    }

pub returns : goal.returns
returns g c =
    let view = c.args.self.now in
    let old = g.K.Asking.told_at view.seat.now in
    let new = g.K.Asking.told_at c.ask_there-asked.new.seat in
    let e = c.ask_there-asked.ensures in
    let was = refusal_of view.refused.now in
    let is = refusal_of c.refusal.result in record {
      answered = came_ok g.K.Asking.tells_known (g.K.Asking.number_at view.seat.now) c.args.text.now old new e.known c.ask_there-asked.result e.told e.adds was is c.requires c.refusal.ensures c.answer.result c.answer.ensures;
      unanswered = came_err g.K.Asking.tells_known (g.K.Asking.number_at view.seat.now) c.args.text.now old new e.known c.ask_there-asked.result e.told e.adds was is c.requires c.refusal.ensures c.answer.result c.answer.ensures;
      memory = λ no. absurd (false≢true no);
      refuses = c.refusal.ensures ∙ refuses_by c.args.text.now c.ask_there-asked.result ∙ ap (refused_of c.args.text.now) (sym c.answer.ensures);
      same = (
        refl,
        refl,
        refl,
        refl,
        refl,
        refl,
        e.same.0,
        seat_kept g.K.Asking.tells_known (g.K.Asking.number_at view.seat.now) c.args.text.now old new e.known c.ask_there-asked.result e.told e.adds was is c.requires c.refusal.ensures,
      );
    }
