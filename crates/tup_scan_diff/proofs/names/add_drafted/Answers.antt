use Rattle.std.proofs.Common.{List, subst}
use Rattle.tup_path.specs.Name.{Names}
use Rattle.tup_path.specs.Order.{by_bytes}
use Rattle.tup_scan_diff.specs.Names.{IsIn}
use Rattle.tup_scan_diff.specs.Sets.{GrowsBy}
use Rattle.tup_scan_diff.proofs.Named.{drafts_more}
use Rattle.tup_scan_diff.proofs.names.add_drafted.Goals as goal

pub loop-draft-preserved : goal.loop-draft-preserved
loop-draft-preserved c =
    let draft = c.draft-item.result in
    drafts_more c.args.dir.now c.args.drafts.now c.loop-draft.draft-index draft draft c.args.names.now c.loop-draft.names c.add_paths.new.names c.loop-draft-test.true c.draft-item.is c.loop-draft.invariant
    (subst (λ (l : List Names). GrowsBy by_bytes (IsIn l c.args.dir.now) c.loop-draft.names c.add_paths.new.names) c.as_slice.ensures c.in_ok-add_paths.ensures.names)
