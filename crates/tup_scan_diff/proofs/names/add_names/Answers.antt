use Rattle.std.proofs.Common.{List, ℕ, ◌≡◌, subst}
use Rattle.tup_path.specs.Order.{by_bytes}
use Rattle.tup_scan_diff.specs.Sets.{GrowsBy}
use Rattle.tup_scan_diff.proofs.Named.{listed_more, name-decides}
use Rattle.tup_scan_diff.proofs.Sets.{one_key}
use Rattle.tup_scan_diff.proofs.names.add_names.Goals as goal

pub loop-name-preserved : goal.loop-name-preserved
loop-name-preserved c =
    let name = c.name-item.result in
    listed_more c.args.more.now c.loop-name.name-index name name c.args.names.now c.loop-name.names c.insert.new.self c.loop-name-test.true c.name-item.is c.loop-name.invariant
    (subst (λ (n : List ℕ). GrowsBy by_bytes (λ k. k ≡ n) c.loop-name.names c.insert.new.self) c.in_ok-clone.ensures.cases
    (one_key by_bytes name-decides c.loop-name.names c.insert.new.self c.in_ok-clone.field-0 c.in_ok-insert.ensures.updates c.in_ok-insert.ensures.ordered))
