use Rattle.tup_readings.proofs.Making.{know_none}
use Rattle.tup_readings.proofs.done.Done.new.Goals as goal

pub invariant_of-result : goal.invariant_of-result
invariant_of-result c = rw (c.new.ensures, c.new-2.ensures) know_none
