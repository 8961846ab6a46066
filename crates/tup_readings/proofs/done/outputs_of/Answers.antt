use Rattle.std.proofs.Common.{List, subst}
use Rattle.tup_path.specs.Name.{Names}
use Rattle.tup_readings.specs.Done.{AddsPaths}
use Rattle.tup_readings.proofs.Making.{outputs_none, outputs_more}
use Rattle.tup_readings.proofs.done.outputs_of.Goals as goal

pub loop-draft-init : goal.loop-draft-init
loop-draft-init c = outputs_none c.new-outputs.result c.new-outputs.ensures.empty

pub loop-draft-preserved : goal.loop-draft-preserved
loop-draft-preserved c =
    let draft = c.draft-item.result in
    outputs_more c.args.drafts.now c.loop-draft.draft-index draft draft c.loop-draft.outputs c.add_paths.new.set c.loop-draft-test.true c.draft-item.is c.loop-draft.invariant
    (subst (λ (l : List Names). AddsPaths l c.loop-draft.outputs c.add_paths.new.set) c.as_slice.ensures c.in_ok-add_paths.ensures)
