use Rattle.tup_rule_diff.proofs.Taking.{swap_read}
use Rattle.tup_rule_diff.proofs.laws.swap_edits_are_read.Goals as goal

pub returns : goal.returns
returns c = λ entries g fresh gone rules edits origin up is are ordered spelled. swap_read g fresh gone rules edits are entries origin up is ordered spelled
