use Rattle.std.proofs.Common.{◌∷◌, ◌++◌, [], List, codes}
use Rattle.tup_history.specs.declared.turn.Turn.{Turn}
use Rattle.tup_large.specs.Turns.{delete, update, write}
use Rattle.tup_large.proofs.Each.{both}
use Rattle.tup_large.proofs.turns.add_edits.Goals as goal

pub returns : goal.returns
returns c =
    let header : List Turn = write (codes "inc") (codes "h0.h") (codes "#define H0 1\n") ∷ update ∷ [] in
    let source : List Turn = write (codes "d0000") (codes "s1.c") (codes "int x;\n") ∷ update ∷ [] in
    let more : List Turn = write (codes "d0000") (codes "n.c") (codes "int n;\n") ∷ update ∷ [] in
    let less : List Turn = delete (codes "d0000") (codes "s9.c") ∷ update ∷ [] in
    let start = c.args.turns.now.items in
    let two = both start c.add_write.new.turns.items c.add_write-2.new.turns.items header source c.in_ok-add_write.ensures c.in_ok-add_write-2.ensures in
    let three = both start c.add_write-2.new.turns.items c.add_write-3.new.turns.items (header ++ source) more two c.in_ok-add_write-3.ensures in
    both start c.add_write-3.new.turns.items c.add_removal.new.turns.items ((header ++ source) ++ more) less three c.in_ok-add_removal.ensures
