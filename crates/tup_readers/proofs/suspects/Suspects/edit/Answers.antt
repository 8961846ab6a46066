use Rattle.std.proofs.Common.{sym, subst}
use Rattle.std.specs.Prelude.{OnOk}
use Rattle.tup_graph.specs.Edits.{edited}
use Rattle.tup_graph.specs.declared.edit.Edit.{Edit}
use Rattle.tup_readers.specs.Suspects.{AreSuspects}
use Rattle.tup_readers.proofs.suspects.Suspects.edit.Goals as goal

pub returns-in-Put : goal.returns-in-Put
returns-in-Put c =
    let g = c.args.nodes.now in
    subst (λ (e : Edit). OnOk c.put.result (AreSuspects (edited g e).seen (edited g e).runs c.put.new.self)) (sym c.in-Put.is) c.put.ensures

pub returns-in-Remove : goal.returns-in-Remove
returns-in-Remove c =
    let g = c.args.nodes.now in
    subst (λ (e : Edit). OnOk c.leave_out.result (AreSuspects (edited g e).seen (edited g e).runs c.leave_out.new.self)) (sym c.in-Remove.is) c.leave_out.ensures
