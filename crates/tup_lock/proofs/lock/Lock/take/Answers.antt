use Rattle.std.proofs.Common.{rules}
use Rattle.tup_lock.proofs.Steps.{takes_it}
use Rattle.tup_lock.proofs.lock.Lock.take.Goals as goal

pub compare_exchange-found-requires : goal.compare_exchange-found-requires
compare_exchange-found-requires g c = (search rules, search rules, takes_it g.T.Logged _ _ _ _)
