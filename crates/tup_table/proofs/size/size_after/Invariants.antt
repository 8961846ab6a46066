use Rattle.std.proofs.Common.{◌≤◌, ℕ, List, take}
use Rattle.std.specs.BTreeMap.{get}
use Rattle.tup_path.specs.Order.{by_bytes}
use Rattle.tup_table.proofs.Sizes.{SizedTo}
use Rattle.tup_table.proofs.size.size_after.Given as goal

abbrev pub invariant-loop-change : goal.invariant-loop-change
invariant-loop-change l = record {
  sizes : SizedTo l.entries (take l.change-index l.changes) (λ (q : List ℕ). get by_bytes l.changed q) l.size;
  small : l.size ≤ 4611686018427387904;
}
