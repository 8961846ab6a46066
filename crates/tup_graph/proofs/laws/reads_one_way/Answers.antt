use Rattle.tup_graph.proofs.OneWay.{one_graph, not_broken}
use Rattle.tup_graph.proofs.laws.reads_one_way.Goals as goal

pub returns-clause-one : goal.returns-clause-one
returns-clause-one c = one_graph

pub returns-clause-none : goal.returns-clause-none
returns-clause-none c = not_broken
