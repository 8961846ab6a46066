use Rattle.std.proofs.Common.{rules}
use Rattle.tup_lock.proofs.Steps.{draws_one}
use Rattle.tup_lock.proofs.lock.Lock.draw.Goals as goal

pub split_seat-requires : goal.split_seat-requires
split_seat-requires g c = (search rules, search rules, draws_one g.T.Logged _ _ _ c.requires.first)
