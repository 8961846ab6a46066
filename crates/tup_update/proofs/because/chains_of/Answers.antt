use Rattle.tup_update.proofs.Chained.{chains_wait}
use Rattle.tup_update.proofs.because.chains_of.Goals as goal

pub returns-clause-chains : goal.returns-clause-chains
returns-clause-chains c =
    chains_wait c.args.nodes.now c.args.plan.now c.in_ok-waiting.waiting (record { each = c.in_ok-waiting.ensures.each; are = c.in_ok-waiting.ensures.are }) c.in_ok-of.field-0 c.in_ok-of.ensures
