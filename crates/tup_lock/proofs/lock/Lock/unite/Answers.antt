use Rattle.std.proofs.Common.{rules}
use Rattle.tup_lock.proofs.Steps.{unites}
use Rattle.tup_lock.proofs.lock.Lock.unite.Goals as goal

pub join_seat-requires : goal.join_seat-requires
join_seat-requires g c = (search rules, search rules, c.requires.other.0, search rules, unites g.T.Logged _ _ _ _ _ c.requires.other.1)
