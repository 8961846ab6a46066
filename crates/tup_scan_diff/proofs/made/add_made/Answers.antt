use Rattle.std.proofs.Common.{List, subst}
use Rattle.std.specs.Prelude.{Contains}
use Rattle.tup_path.specs.Name.{Names}
use Rattle.tup_path.specs.Order.{by_names}
use Rattle.tup_scan_diff.specs.Sets.{GrowsBy}
use Rattle.tup_scan_diff.proofs.Named.{outputs_more}
use Rattle.tup_scan_diff.proofs.made.add_made.Goals as goal

pub loop-draft-preserved : goal.loop-draft-preserved
loop-draft-preserved c =
    let draft = c.draft-item.result in
    outputs_more c.args.drafts.now c.loop-draft.draft-index draft draft c.args.outputs.now c.loop-draft.outputs c.add_all.new.outputs c.loop-draft-test.true c.draft-item.is c.loop-draft.invariant
    (subst (λ (l : List Names). GrowsBy by_names (Contains l) c.loop-draft.outputs c.add_all.new.outputs) c.as_slice.ensures c.in_ok-add_all.ensures.outputs)
