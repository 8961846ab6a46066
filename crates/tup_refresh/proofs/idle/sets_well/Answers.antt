use Rattle.std.proofs.Common.{[], sym, subst}
use Rattle.tup_refresh.specs.Idle.{IsWellSet}
use Rattle.tup_refresh.proofs.Untouched.{empty_sets}
use Rattle.tup_refresh.proofs.idle.sets_well.Goals as goal

pub returns-in-Some : goal.returns-in-Some
returns-in-Some c = λ is. subst IsWellSet (sym c.in-Some.is) (c.is_config.ensures is)

pub returns-in-None : goal.returns-in-None
returns-in-None c = λ is. subst IsWellSet (sym c.in-None.is) ([], empty_sets)
