use Rattle.std.proofs.Common.{length, ap, arith}
use Rattle.std.specs.FinMap as finite
use Rattle.tup_schedule.proofs.Going.{course_opens, course_made}
use Rattle.tup_schedule.proofs.course.Course.new.Goals as goal

pub invariant_of-result : goal.invariant_of-result
invariant_of-result c =
    let files = finite.entries c.args.files.now in
    course_made c.args.plan.now c.of.result.value files (finite.entries c.of-2.result.value) c.in_ok-with_capacity.field-0.items _ _ _ _ c.of.ensures (ap finite.entries c.of-2.ensures) c.in_ok-with_capacity.ensures.items
    (course_opens c.args.plan.now files _ _ _ _ c.in_ok-core.ensures.core (ap finite.entries c.in_ok-core.ensures.first) c.in_ok-core.ensures.state c.in_ok-turn.ensures c.in_ok-no_ends.ensures
    (let room = c.in_ok-with_capacity.ensures.capacity in let same = ap length c.as_slice.ensures in omega (arith, room, same)))
