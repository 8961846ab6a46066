use Rattle.std.proofs.Common.{◌∙◌, arith}
use Rattle.std.proofs.lemmas.List.{take_all}
use Rattle.std.proofs.lemmas.Result.{IfOk-weaker}
use Rattle.tup_board_rows.proofs.report.reported.Goals as goal

pub returns-clause-asks : goal.returns-clause-asks
returns-clause-asks g c =
    let told = c.performed-report.new.told in
    let all = take_all told.asked told.given (omega (arith, c.if-asked-len.false, c.len.ensures, c.asked.ensures)) in
    IfOk-weaker c.performed-report.result _ _ (λ report same. same ∙ all ∙ c.performed-report.ensures.given) c.performed-report.ensures.asks
