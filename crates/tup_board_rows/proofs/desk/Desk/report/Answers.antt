use Rattle.std.proofs.Common.{ap, ◌∙◌}
use Rattle.std.specs.Option.{option_copied}
use Rattle.std.proofs.lemmas.Result.{IfOk-weaker}
use Rattle.tup_rule.specs.declared.rule.Rule.{Rule}
use Rattle.tup_board_rows.proofs.desk.Desk.report.Goals as goal

pub returns-in-Some-get_mut-clause-dir : goal.returns-in-Some-get_mut-clause-dir
returns-in-Some-get_mut-clause-dir c =
    IfOk-weaker c.seat_report.result _ _ (λ report same it. same ∙ ap (λ (rule : Rule). rule.dir) (c.rule_of.ensures c.in-Some.rule.now (ap option_copied c.in-Some.is) it)) c.seat_report.ensures.dir

pub returns-in-Some-get_mut-clause-text : goal.returns-in-Some-get_mut-clause-text
returns-in-Some-get_mut-clause-text c =
    IfOk-weaker c.seat_report.result _ _ (λ report same it. same ∙ ap (λ (rule : Rule). rule.text) (c.rule_of.ensures c.in-Some.rule.now (ap option_copied c.in-Some.is) it)) c.seat_report.ensures.text
