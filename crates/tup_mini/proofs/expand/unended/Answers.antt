use Rattle.std.proofs.Common.{◌-◌, length, arith, rules}
use Rattle.tup_mini.proofs.Including.{unended-yes, unended-no}
use Rattle.tup_mini.proofs.expand.unended.Goals as goal

pub returns-in-10 : goal.returns-in-10
returns-in-10 c = unended-yes c.args.line.now (length c.args.line.now - 1) (omega (arith, c.in-10.len_at_least)) (search rules)

pub returns-in_default-2 : goal.returns-in_default-2
returns-in_default-2 c = unended-no c.args.line.now (length c.args.line.now - 1) (omega (arith, c.in_default.len_at_least)) (search rules)
