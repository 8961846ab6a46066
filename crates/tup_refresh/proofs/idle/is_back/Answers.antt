use Rattle.std.proofs.Common.{sym, subst}
use Rattle.tup_refresh.specs.Idle.{AsksBack}
use Rattle.tup_refresh.proofs.idle.is_back.Goals as goal

pub returns-in-Kind : goal.returns-in-Kind
returns-in-Kind c = λ is. subst (AsksBack c.args.nodes.now c.args.reader.now) (sym c.in-Kind.is) (c.is_above_back.ensures is)
