use Rattle.std.proofs.Common.{cond, true, ap, ◌∙◌}
use Rattle.std.specs.BTreeSet.{contains}
use Rattle.std.specs.Ordering.{eq_by_cmp}
use Rattle.tup_path.specs.Name.{Names}
use Rattle.tup_path.specs.Order.{by_names}
use Rattle.tup_readings.proofs.Making.{adds_none, adds_more}
use Rattle.tup_readings.proofs.done.add_paths.Goals as goal

pub loop-path-init : goal.loop-path-init
loop-path-init c = adds_none c.args.set.now

pub loop-path-preserved : goal.loop-path-preserved
loop-path-preserved c =
    let path = c.path-item.result in
    adds_more c.args.paths.now c.loop-path.path-index path path c.args.set.now c.loop-path.set c.insert.new.self c.loop-path-test.true c.path-item.is c.loop-path.invariant
    (λ other. c.in_ok-insert.ensures.updates.0 other
    ∙ ap (λ (p : Names). cond (eq_by_cmp by_names p other) true (contains by_names c.loop-path.set other)) c.in_ok-clone.ensures.cases)
