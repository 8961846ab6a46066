use Rattle.std.proofs.Common.{◌+◌, ◌≤◌, length, refl, arith}
use Rattle.tup_demo.proofs.Passing.{written_small}
use Rattle.tup_demo.proofs.steady_calls.SteadySiteSite.db_write.Goals as goal

pub invariant_of-self-clause-is_small : goal.invariant_of-self-clause-is_small
invariant_of-self-clause-is_small c =
    let old = c.args.self.now in
    let within = c.requires refl in
    let small = old.is_small in
    let fits : c.args.at + length c.args.bytes.now ≤ 65536 = omega (arith, within, small, c.if-bytes-at.false) in
    written_small old.site c.db_write.new.self c.args.at c.args.bytes.now c.db_write.result small within fits c.db_write.ensures.written c.db_write.ensures.unchanged
