use Rattle.tup_scan_diff.proofs.Looking.{edit_taken, edits_taken, no_edits}
use Rattle.tup_scan_diff.proofs.present.Present.push_users_of.Goals as goal

pub loop-edit-init : goal.loop-edit-init
loop-edit-init c = no_edits c.args.self.now c.args.graph.now

pub loop-edit-preserved : goal.loop-edit-preserved
loop-edit-preserved c =
    let one = c.edit-item.result in
    edit_taken c.args.self.now c.args.graph.now c.args.edits.now c.loop-edit.edit-index one one c.loop-edit-test.true c.edit-item.is c.loop-edit.invariant c.in_ok-push_users_at.ensures.roots

pub returns-clause-roots : goal.returns-clause-roots
returns-clause-roots c = edits_taken c.args.self.now c.args.graph.now c.args.edits.now c.loop-edit.edit-index c.loop-edit-test.false c.loop-edit.invariant
