use Rattle.tup_rule.proofs.Same.{same_fields-tells}
use Rattle.tup_rule.proofs.rule.Rule.same.Goals as goal

pub returns : goal.returns
returns c = same_fields-tells _ _ _ c.eq.ensures
