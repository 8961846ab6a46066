use Rattle.std.proofs.Common.{length, ap, arith}
use Rattle.tup_schedule.proofs.Rooms.{few_come}
use Rattle.tup_schedule.proofs.course.most_to_come.Goals as goal

pub returns-clause-many : goal.returns-clause-many
returns-clause-many c = λ state. let few = few_come c.args.plan.now state in let same = ap length c.as_slice.ensures in omega (arith, few, same)
