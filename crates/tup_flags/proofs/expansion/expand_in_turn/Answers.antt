use Rattle.tup_flags.proofs.Whole.{in-turn}
use Rattle.tup_flags.proofs.expansion.expand_in_turn.Goals as goal

pub returns : goal.returns
returns c = in-turn c.args.parts.now c.args.front.now c.args.back.now
