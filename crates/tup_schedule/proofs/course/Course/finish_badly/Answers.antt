use Rattle.std.proofs.Common.{sym, subst}
use Rattle.tup_schedule.specs.Course.{KeepsBeside}
use Rattle.tup_schedule.proofs.Going.{bad_keeps}
use Rattle.tup_schedule.proofs.course.Course.finish_badly.Goals as goal

pub try_take-requires-clause-beside : goal.try_take-requires-clause-beside
try_take-requires-clause-beside c = subst (KeepsBeside c.args.self.now) (sym c.in_ok-event.ensures) (bad_keeps c.args.self.now c.args.seat c.requires.goes_on c.args.verdict.now c.requires.bad)
