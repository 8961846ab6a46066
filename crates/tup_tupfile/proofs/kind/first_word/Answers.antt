use Rattle.std.proofs.Common.{arith}
use Rattle.tup_tupfile.proofs.Blanks.{blank_at}
use Rattle.tup_tupfile.proofs.kind.first_word.Goals as goal

pub range-requires-clause-end_boundary : goal.range-requires-clause-end_boundary
range-requires-clause-end_boundary c =
    let place = rw c.as_bytes.ensures.value at c.in-Some.ensures.place in
    let within = rw c.as_bytes.ensures.value at c.in-Some.ensures.within in
    let small = blank_at c.args.line.now c.in-Some.at place in
    (omega arith, λ l large. absurd (omega arith))

pub range_from-requires : goal.range_from-requires
range_from-requires c =
    let place = rw c.as_bytes.ensures.value at c.in-Some.ensures.place in
    let within = rw c.as_bytes.ensures.value at c.in-Some.ensures.within in
    let small = blank_at c.args.line.now c.in-Some.at place in
    λ some. (omega arith, λ l large. absurd (omega arith))
