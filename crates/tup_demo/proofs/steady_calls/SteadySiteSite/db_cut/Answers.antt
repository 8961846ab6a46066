use Rattle.tup_demo.proofs.Passing.{cut_small}
use Rattle.tup_demo.proofs.steady_calls.SteadySiteSite.db_cut.Goals as goal

pub invariant_of-self-clause-is_small : goal.invariant_of-self-clause-is_small
invariant_of-self-clause-is_small c = cut_small c.args.self.now.site c.db_cut.new.self c.args.len c.db_cut.result c.args.self.now.is_small c.db_cut.ensures.cut c.db_cut.ensures.unchanged
