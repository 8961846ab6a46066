use Rattle.std.proofs.Common.{◌≡◌, Ok, ap, ◌∙◌, refl}
use Rattle.std.proofs.lemmas.Result.{err_from_is_err_and}
use Rattle.tup_query.specs.Reads.{gives}
use Rattle.tup_rule_line.specs.Flagged.{text_of, flagged, flagged_text}
use Rattle.tup_query.proofs.Went.{gives_then, gives_err}
use Rattle.tup_rule_line.proofs.flagged.flagged_text.Goals as goal

pub returns-in_err-pieces : goal.returns-in_err-pieces
unfolding flagged_text
returns-in_err-pieces c =
    let p = err_from_is_err_and c.from_residual.result c.from_residual.ensures.1 in
    rw (p.1, p.2) (gives_err (flagged c.args.at.now c.args.parts.now c.args.text.now) (λ pieces. gives (text_of pieces)) _ c.in_err-pieces.ensures)

pub returns : goal.returns
unfolding flagged_text
returns c =
    let e : c.in_ok-text_of.field-0 ≡ text_of c.in_ok-pieces.pieces = c.in_ok-text_of.ensures ∙ ap text_of c.as_slice.ensures in
    rw e (gives_then (flagged c.args.at.now c.args.parts.now c.args.text.now) (λ pieces. gives (text_of pieces)) c.in_ok-pieces.pieces (Ok (text_of c.in_ok-pieces.pieces)) c.in_ok-pieces.ensures refl)
