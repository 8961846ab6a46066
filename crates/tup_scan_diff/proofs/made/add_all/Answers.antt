use Rattle.std.proofs.Common.{◌≡◌, subst}
use Rattle.tup_path.specs.Name.{Names}
use Rattle.tup_path.specs.Order.{by_names}
use Rattle.tup_path.proofs.Same.{by_names-decides}
use Rattle.tup_scan_diff.specs.Sets.{GrowsBy}
use Rattle.tup_scan_diff.proofs.Named.{listed_more}
use Rattle.tup_scan_diff.proofs.Sets.{one_key}
use Rattle.tup_scan_diff.proofs.made.add_all.Goals as goal

pub loop-path-preserved : goal.loop-path-preserved
loop-path-preserved c =
    let path = c.path-item.result in
    listed_more c.args.paths.now c.loop-path.path-index path path c.args.outputs.now c.loop-path.outputs c.insert.new.self c.loop-path-test.true c.path-item.is c.loop-path.invariant
    (subst (λ (p : Names). GrowsBy by_names (λ k. k ≡ p) c.loop-path.outputs c.insert.new.self) c.in_ok-clone.ensures.cases
    (one_key by_names by_names-decides c.loop-path.outputs c.insert.new.self c.in_ok-clone.field-0 c.in_ok-insert.ensures.updates c.in_ok-insert.ensures.ordered))
