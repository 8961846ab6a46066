use Rattle.tup_history.proofs.Starting.{new_unbegun}
use Rattle.tup_history.proofs.start.new_sites_are_unbegun.Goals as goal

pub returns : goal.returns
returns c = new_unbegun
