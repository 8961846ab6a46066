use Rattle.std.proofs.Common.{◌≡◌, sym, ap, ◌∙◌}
use Rattle.std.specs.Prelude.{slice_get}
use Rattle.std.proofs.lemmas.Option.{same_Some}
use Rattle.tup_core.specs.declared.plan.Plan.{Plan}
use Rattle.tup_board.specs.Seat.{refusal_of}
use Rattle.tup_board.proofs.Performed.{if_ok_so, performed_by, reported_by}
use Rattle.tup_board.proofs.drain.performed_in.Goals as goal

pub returns-clause-performs : goal.returns-clause-performs
returns-clause-performs g c =
    let view = c.args.view.now in
    let seen = c.perform.new.view in
    let old = g.D.Desk.board view.board.now in
    let rule_is : view.rule.now ≡ c.requires.starts.rule = same_Some _ _ (sym c.requires.placed ∙ ap (λ (p : Plan). slice_get p.rules c.args.rule) view.of_board ∙ c.requires.starts.placed) in
    performed_by g.D.Site.Site g.R.Runner old (g.D.Desk.board seen.board.now) c.args.rule c.requires.starts view.seat seen.seat c.requires.seat (refusal_of view.refused.now) (refusal_of seen.refused.now) c.requires.granted
    c.perform.ensures.same.5 view.rule.now rule_is _ (λ report says. says.granted) c.perform.result c.perform.ensures.reports c.perform.ensures.refuses

pub returns-clause-report : goal.returns-clause-report
returns-clause-report g c =
    let view = c.args.view.now in
    let seen = c.perform.new.view in
    let old = g.D.Desk.board view.board.now in
    let rule_is : view.rule.now ≡ c.requires.starts.rule = same_Some _ _ (sym c.requires.placed ∙ ap (λ (p : Plan). slice_get p.rules c.args.rule) view.of_board ∙ c.requires.starts.placed) in
    if_ok_so _ _ (λ report says.
    reported_by g.D.Site.Site g.R.Runner old (g.D.Desk.board seen.board.now) c.args.rule c.requires.starts view.seat seen.seat c.requires.seat (refusal_of view.refused.now) (refusal_of seen.refused.now) c.requires.granted
    c.perform.ensures.same.5 view.rule.now rule_is report.dir report.text report.asks says.dir_is says.text_is says.came_by says.granted) c.perform.result c.perform.ensures.reports
