use Rattle.std.proofs.Common.{◌∙◌}
use Rattle.std.proofs.lemmas.Result.{IfOk-weaker}
use Rattle.tup_runner.specs.Report.{asks_of}
use Rattle.tup_board_rows.proofs.Told.{came_all}
use Rattle.tup_board_rows.proofs.report.performed.Goals as goal

pub returns-clause-dir : goal.returns-clause-dir
returns-clause-dir g c = IfOk-weaker c.perform.result _ _ (λ report reports. reports.dir_is) c.perform.ensures.reports

pub returns-clause-text : goal.returns-clause-text
returns-clause-text g c = IfOk-weaker c.perform.result _ _ (λ report reports. reports.text_is) c.perform.ensures.reports

pub returns-clause-asks : goal.returns-clause-asks
returns-clause-asks g c =
    IfOk-weaker c.perform.result _ _ (λ report reports. came_all c.rewind.new.self (asks_of report) c.perform.new.view c.rewind.ensures.asked reports.came_by) c.perform.ensures.reports

pub returns-clause-given : goal.returns-clause-given
returns-clause-given g c = c.perform.ensures.same ∙ c.rewind.ensures.given
