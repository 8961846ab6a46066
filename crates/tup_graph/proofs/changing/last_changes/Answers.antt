use Rattle.std.proofs.Common.{take, take_all, ◌∙◌}
use Rattle.tup_graph.proofs.Lasts.{last_more, last_all}
use Rattle.tup_graph.proofs.changing.last_changes.Goals as goal

pub loop-edit-preserved : goal.loop-edit-preserved
loop-edit-preserved c =
    let found = c.in_ok-key.ensures in
    last_more c.as_slice-edit-items.result.now c.loop-edit.edit-index c.edit-item.result c.loop-edit-test.true c.edit-item.is c.loop-edit.last.entries c.insert.new.self.entries c.in_ok-key.key c.in_ok-key.change
    c.loop-edit.invariant found.0 found.1 found.2 c.in_ok-insert.ensures.updates.0 c.insert.ensures.ordered

pub returns : goal.returns
returns c =
    last_all c.args.edits.now (take c.loop-edit.edit-index c.as_slice-edit-items.result.now) c.loop-edit.last.entries
    (take_all c.loop-edit.edit-index c.as_slice-edit-items.result.now c.loop-edit-test.false ∙ c.as_slice-edit-items.ensures) c.loop-edit.invariant
