use mathlib.Core.Logic.{∥∥₁_elim}
use Rattle.std.proofs.Common.{◌≡◌, ap, sym, subst, ◌∙◌}
use Rattle.std.proofs.lemmas.Option.{same_Some}
use Rattle.tup_board.specs.Seat.{refusal_of}
use Rattle.tup_board.proofs.Performed.{if_ok_so}
use Rattle.tup_workers.proofs.Performed.{performed_by, reported_by}
use Rattle.tup_workers.proofs.performing.performed_in.Goals as goal

pub returns-clause-performs : goal.returns-clause-performs
returns-clause-performs g c =
    let view = c.args.view.now in
    let seen = c.perform.new.view in
    let old = g.K.Asking.told_at view.seat.now in
    let new = g.K.Asking.told_at seen.seat.now in
    let rule_is : view.rule.now ≡ c.requires.starts.rule = same_Some _ _ (sym c.requires.placed ∙ c.requires.starts.placed) in
    performed_by g.K.Asking.tells_known g.R.Runner view.plan.now c.args.rule old new c.requires.starts (refusal_of view.refused.now) (refusal_of seen.refused.now) c.requires.granted c.perform.ensures.same.7 view.rule.now rule_is _
    (λ report says. says.granted) c.perform.result c.perform.ensures.reports c.perform.ensures.refuses

pub returns-clause-report : goal.returns-clause-report
returns-clause-report g c =
    let view = c.args.view.now in
    let seen = c.perform.new.view in
    let old = g.K.Asking.told_at view.seat.now in
    let new = g.K.Asking.told_at seen.seat.now in
    let rule_is : view.rule.now ≡ c.requires.starts.rule = same_Some _ _ (sym c.requires.placed ∙ c.requires.starts.placed) in
    if_ok_so _ _ (λ report says.
    reported_by g.K.Asking.tells_known g.R.Runner view.plan.now c.args.rule old new c.requires.starts (refusal_of view.refused.now) (refusal_of seen.refused.now) c.requires.granted c.perform.ensures.same.7 view.rule.now rule_is
    report.dir report.text report.asks says.dir_is says.text_is says.came_by says.granted) c.perform.result c.perform.ensures.reports

pub returns-clause-at : goal.returns-clause-at
returns-clause-at g c =
    let e = c.perform.ensures.same in
    let seen = c.perform.new.view in
    let at = ∥∥₁_elim seen.belongs (g.met.K.Asking.once seen.lock.now seen.seat.now) (λ is. is) in
    (subst (λ lock. g.K.Asking.is_at lock.now seen.seat.now) e.2 at, sym (ap (λ plan. plan.now) e.1) ∙ seen.of_board)
