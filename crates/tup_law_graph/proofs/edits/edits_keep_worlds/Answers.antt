use Rattle.tup_law_graph.proofs.Edited.{world_more}
use Rattle.tup_law_graph.proofs.edits.edits_keep_worlds.Goals as goal

pub returns : goal.returns
returns c = λ next language known more world other also stays kept. world_more known more also next language world other stays kept
