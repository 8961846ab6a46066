use Rattle.std.proofs.Common.{◌≡◌, take}
use Rattle.std.specs.List.{flat_map}
use Rattle.tup_link.specs.Groups.{listed}
use Rattle.tup_link.specs.Known.{Knows}
use Rattle.tup_link.specs.Linked.{with_paths}
use Rattle.tup_link.proofs.order.order_of.Given as goal

abbrev pub invariant-loop-group : goal.invariant-loop-group
invariant-loop-group l = record {
  paths : l.all.paths ≡ with_paths l.order (flat_map (listed l.groups) (take l.group-index l.taken));
  known : Knows l.all.known l.all.paths;
}
