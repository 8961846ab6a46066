use Rattle.tup_law_graph.proofs.Reached.{none_left}
use Rattle.tup_law_graph.proofs.reach.nothing_is_left.Goals as goal

pub returns : goal.returns
returns c = λ next language known g tree sources rules at kept done as_seen mine come reached. none_left next language known g tree kept done as_seen sources rules mine come at reached
