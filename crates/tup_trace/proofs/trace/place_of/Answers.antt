use Rattle.tup_trace.proofs.Taken.{placed}
use Rattle.tup_trace.proofs.trace.place_of.Goals as goal

pub returns : goal.returns
returns c = placed c.args.process.now c.args.calls.now c.position_of.result c.position_of.ensures
