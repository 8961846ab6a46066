use Rattle.tup_top.proofs.EachTold.{each_told}
use Rattle.tup_top.proofs.telling.each_rule_is_told.Goals as goal

pub returns : goal.returns
returns c = each_told
