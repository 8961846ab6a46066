use Rattle.std.proofs.Common.{◌≡◌, ◌++◌, filter}
use Rattle.std.specs.Map.{values_of}
use Rattle.tup_graph.specs.Changes.{changes_it}
use Rattle.tup_graph.proofs.changing.changes.Given as goal

abbrev pub invariant-loop-change : goal.invariant-loop-change
invariant-loop-change l =
    l.changes.items ++ filter (changes_it l.entries) (values_of l.change-iterator) ≡ filter (changes_it l.entries) (values_of l.initial.change-iterator)
