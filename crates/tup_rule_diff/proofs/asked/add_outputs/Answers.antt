use Rattle.tup_path.specs.Order.{by_names}
use Rattle.tup_path.proofs.Same.{by_names-decides}
use Rattle.tup_readers.proofs.Entries.{none_in}
use Rattle.tup_closure.proofs.Growing.{grows_nothing}
use Rattle.tup_closure.proofs.Members.{inserted}
use Rattle.tup_rule_diff.proofs.Asking.{path_more}
use Rattle.tup_rule_diff.proofs.asked.add_outputs.Goals as goal

pub loop-path-init : goal.loop-path-init
loop-path-init c = grows_nothing (λ path h. none_in path h)

pub loop-path-preserved : goal.loop-path-preserved
loop-path-preserved c =
    path_more c.args.paths.now c.loop-path.path-index c.path-item.result c.in_ok-clone.field-0 c.args.outputs.now c.loop-path.outputs c.insert.new.self c.loop-path-test.true c.path-item.is c.in_ok-clone.ensures.cases c.loop-path.invariant
    (inserted by_names by_names-decides c.loop-path.outputs c.insert.new.self c.in_ok-clone.field-0 c.in_ok-insert.ensures.updates)
