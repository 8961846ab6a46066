use Rattle.std.proofs.Common.{inr}
use Rattle.tup_vars.specs.Branches.{turned}
use Rattle.tup_tupfile.proofs.Openings.{levels-ok, levels-refused}
use Rattle.tup_tupfile.proofs.opening.turned.Goals as goal

pub returns-in-Ok : goal.returns-in-Ok
returns-in-Ok c = levels-ok c.args.at.now c.args.before.state (turned c.args.before.levels) c.other.new.self c.in-Ok.ensures.turned

pub returns-in-Err : goal.returns-in-Err
returns-in-Err c = levels-refused c.args.at.now c.args.before.state (turned c.args.before.levels) c.in-Err.fault c.var_end.result c.var_end.ensures.refusal (inr c.in-Err.ensures.turned)
