use Rattle.std.proofs.Common.{◌∷◌, ◌++◌, [], List, codes}
use Rattle.tup_history.specs.declared.turn.Turn.{Turn}
use Rattle.tup_large.specs.Turns.{call, edits, update}
use Rattle.tup_large.proofs.Each.{both}
use Rattle.tup_large.proofs.turns.add_turns.Goals as goal

pub returns : goal.returns
returns c =
    let first : List Turn = call (codes "init") ∷ [] in
    let once : List Turn = update ∷ [] in
    let last : List Turn = call (codes "verify") ∷ [] in
    let start = c.args.turns.now.items in
    let two = both start c.add_call.new.turns.items c.add_call-2.new.turns.items first once c.in_ok-add_call.ensures c.in_ok-add_call-2.ensures in
    let three = both start c.add_call-2.new.turns.items c.add_call-3.new.turns.items (first ++ once) once two c.in_ok-add_call-3.ensures in
    let four = both start c.add_call-3.new.turns.items c.add_edits.new.turns.items ((first ++ once) ++ once) edits three c.in_ok-add_edits.ensures in
    both start c.add_edits.new.turns.items c.add_call-4.new.turns.items (((first ++ once) ++ once) ++ edits) last four c.in_ok-add_call-4.ensures
