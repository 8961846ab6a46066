use Rattle.std.proofs.Common.{List, ap, sym, ◌∙◌}
use Rattle.tup_path.specs.Name.{Names}
use Rattle.tup_link.specs.Groups.{listed}
use Rattle.tup_link.specs.Linked.{with_paths}
use Rattle.tup_link.proofs.Knowing.{with_more, none_taken, copied}
use Rattle.tup_link.proofs.order.order_of.Goals as goal

pub returns-then-is_empty : goal.returns-then-is_empty
returns-then-is_empty c =
    none_taken (listed c.args.groups.now) c.args.order.now c.in_ok-copy.copy c.args.taken.now c.is_empty.result c.is_empty.ensures c.if-is_empty.true
    (copied c.args.order.now c.in_ok-copy.copy c.in_ok-copy.ensures.cases.0)

pub loop-group-init : goal.loop-group-init
loop-group-init c = record {
  paths = c.in_ok-all.ensures.paths ∙ copied c.args.order.now c.in_ok-copy.copy c.in_ok-copy.ensures.cases.0;
  known = c.in_ok-all.ensures.known;
}

pub loop-group-preserved : goal.loop-group-preserved
loop-group-preserved c = record {
  paths =
      c.in_ok-add_group.ensures.paths
      ∙ ap (λ (l : List Names). with_paths l (listed c.args.groups.now c.group-item.result)) c.loop-group.invariant.paths
      ∙ sym (with_more (listed c.args.groups.now) c.args.order.now c.args.taken.now c.loop-group.group-index c.group-item.result c.loop-group-test.true c.group-item.is);
  known = c.in_ok-add_group.ensures.known;
}
