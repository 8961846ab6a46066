use Rattle.tup_graph.proofs.Bare.{level_of}
use Rattle.tup_rule_diff.proofs.Led.{edits_lead}
use Rattle.tup_rule_diff.proofs.laws.swap_edits_lead.Goals as goal

pub returns : goal.returns
returns c = λ entries g fresh gone rules edits is are. edits_lead g rules fresh gone edits are (level_of entries g is)
