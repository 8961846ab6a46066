use Rattle.std.proofs.Common.{ap, sym, ◌∙◌, append-nil, ◌++◌, ◌+◌, drop, arith}
use Rattle.std.proofs.lemmas.List.{at_drop_all}
use Rattle.tup_rule_line.specs.Flagged.{text_of}
use Rattle.tup_rule_line.proofs.Pieces.{text_more}
use Rattle.tup_rule_line.proofs.flagged.text_of.Goals as goal

pub loop-piece-preserved : goal.loop-piece-preserved
loop-piece-preserved c =
    let l = c.loop-piece in
    ap (λ text. text ++ text_of (drop (l.piece-index + 1) c.args.pieces.now)) c.in_ok-add_piece.ensures
    ∙ text_more l.text c.args.pieces.now l.piece-index c.piece-item.result (omega arith) c.piece-item.is ∙ l.invariant

pub returns : goal.returns
returns c =
    let l = c.loop-piece in
    sym (append-nil l.text) ∙ ap (λ rest. l.text ++ rest) (sym (at_drop_all text_of c.args.pieces.now l.piece-index (omega arith))) ∙ l.invariant
