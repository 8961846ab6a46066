use Rattle.std.proofs.Common.{◌≡◌, ◌≤◌, map, take, drop}
use Rattle.tup_link.specs.Faults.{too_many_links}
use Rattle.tup_link.specs.Groups.{listed}
use Rattle.tup_link.specs.Linked.{rule_of}
use Rattle.tup_link.proofs.rules.rules.Given as goal

abbrev pub invariant-loop-one : goal.invariant-loop-one
invariant-loop-one l = record {
  rules : l.rules ≡ map (rule_of (listed l.groups)) (take l.one-index l.all);
  few : l.count ≤ 4194304;
  rest : too_many_links l.count (map (rule_of (listed l.groups)) (drop l.one-index l.all)) ≡ too_many_links 0 (map (rule_of (listed l.groups)) l.all);
}
