use Rattle.std.proofs.Common.{ℕ, List, ◌++◌, ap, sym, ◌∙◌}
use Rattle.tup_link.specs.Groups.{listed}
use Rattle.tup_link.specs.Linked.{piece_text}
use Rattle.tup_link.proofs.Showing.{text_more}
use Rattle.tup_link.proofs.texts.text_of.Goals as goal

pub loop-piece-preserved : goal.loop-piece-preserved
loop-piece-preserved c =
    let has = listed c.args.groups.now in
    c.in_ok-add_piece.ensures
    ∙ ap (λ (l : List ℕ). l ++ piece_text has c.args.dir.now c.args.taken.now c.piece-item.result) c.loop-piece.invariant
    ∙ sym (text_more has c.args.dir.now c.args.taken.now c.args.pieces.now c.loop-piece.piece-index c.piece-item.result c.loop-piece-test.true c.piece-item.is)
