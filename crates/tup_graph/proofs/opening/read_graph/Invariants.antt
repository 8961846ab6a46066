use Rattle.tup_table.specs.Slots.{standing}
use Rattle.tup_graph.specs.Prints.{HasPrints}
use Rattle.tup_graph.proofs.PutLate.{IsLoading}
use Rattle.tup_graph.proofs.opening.read_graph.Given as goal

abbrev pub invariant-loop-key : goal.invariant-loop-key
invariant-loop-key l = record {
  loading : IsLoading l.entries (standing l.key-iterator) l.graph l.late;
  printed : HasPrints l.graph l.prints;
}
