use Rattle.tup_strace.proofs.Looking.{one_put}
use Rattle.tup_strace.proofs.once.Once.put.Goals as goal

pub invariant_of-self-2 : goal.invariant_of-self-2
invariant_of-self-2 c =
    one_put c.self.inside.list.items c.reserve.new.self.items c.push_reserved.new.self.items c.args.path c.args.copy c.self.inside.set c.insert.new.self
    c.reserve.ensures.items c.push_reserved.ensures.items c.requires c.self.invariant c.in_ok-insert.ensures.updates
