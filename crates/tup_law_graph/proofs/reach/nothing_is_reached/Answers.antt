use Rattle.tup_law_graph.proofs.Reached.{none_reached}
use Rattle.tup_law_graph.proofs.reach.nothing_is_reached.Goals as goal

pub returns : goal.returns
returns c = λ next language known g tree at kept done as_seen reached. none_reached next language known g tree kept done as_seen at reached
