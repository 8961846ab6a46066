use Rattle.std.proofs.Common.{Result, Ok, Err, refl}
use Rattle.std.proofs.lemmas.Result.{err_from_is_err_and}
use Rattle.tup_query.specs.declared.fault.ReadEnd.{ReadEnd}
use Rattle.tup_rule_line.specs.declared.job.Spoken.{Spoken}
use Rattle.tup_rule_line.specs.Flagged.{flagged}
use Rattle.tup_rule_line.specs.Job.{with_carets, shown}
use Rattle.tup_query.proofs.Went.{gives_then, gives_err}
use Rattle.tup_rule_line.proofs.Jobs.{behind_command, behind_pieces, behind_display}
use Rattle.tup_rule_line.specs.Job.{spoken}
use Rattle.tup_rule_line.proofs.command.spoken.Goals as goal

pub returns-in_err-command : goal.returns-in_err-command
unfolding spoken
returns-in_err-command c =
    let a = c.args in
    let p = err_from_is_err_and c.from_residual.result c.from_residual.ensures.1 in
    rw (p.1, p.2) (gives_err (with_carets a.at.now a.text.now) (behind_command a.at.now a.parts.now) _ c.in_err-command.ensures)

pub returns-in_err-pieces : goal.returns-in_err-pieces
unfolding spoken
returns-in_err-pieces c =
    let a = c.args in
    let command = c.in_ok-command.command in
    let p = err_from_is_err_and c.from_residual-in_err-pieces.result c.from_residual-in_err-pieces.ensures.1 in
    rw (p.1, p.2)
    (gives_then (with_carets a.at.now a.text.now) (behind_command a.at.now a.parts.now) command (Err c.in_err-pieces.field-0.0) c.in_ok-command.ensures
    (gives_err (flagged a.at.now a.parts.now command.text) (behind_pieces a.at.now a.parts.now command) c.in_err-pieces.field-0.0 c.in_err-pieces.ensures))

pub returns-in_err-display : goal.returns-in_err-display
unfolding spoken
returns-in_err-display c =
    let a = c.args in
    let command = c.in_ok-command.command in
    let pieces = c.in_ok-pieces.pieces in
    let p = err_from_is_err_and c.from_residual-in_err-display.result c.from_residual-in_err-display.ensures.1 in
    rw (p.1, p.2)
    (gives_then (with_carets a.at.now a.text.now) (behind_command a.at.now a.parts.now) command (Err c.in_err-display.field-0.0) c.in_ok-command.ensures
    (gives_then (flagged a.at.now a.parts.now command.text) (behind_pieces a.at.now a.parts.now command) pieces (Err c.in_err-display.field-0.0) c.in_ok-pieces.ensures
    (gives_err (shown a.at.now a.parts.now command.display) (behind_display command pieces) c.in_err-display.field-0.0 c.in_err-display.ensures)))

pub returns : goal.returns
unfolding spoken
returns c =
    let a = c.args in
    let command = c.in_ok-command.command in
    let pieces = c.in_ok-pieces.pieces in
    let display = c.in_ok-display.display in
    let end : Result Spoken ReadEnd = Ok (record { pieces = pieces; display = display; compare = command.compare }) in
    gives_then (with_carets a.at.now a.text.now) (behind_command a.at.now a.parts.now) command end c.in_ok-command.ensures
    (gives_then (flagged a.at.now a.parts.now command.text) (behind_pieces a.at.now a.parts.now command) pieces end c.in_ok-pieces.ensures
    (gives_then (shown a.at.now a.parts.now command.display) (behind_display command pieces) display end c.in_ok-display.ensures refl))
