use Rattle.std.proofs.Common.{arith}
use Rattle.tup_table.proofs.Apart.{long_front}
use Rattle.tup_table.proofs.sized.long_at.Goals as goal

pub returns : goal.returns
returns c =
    long_front c.args.bytes.now c.in_ok-length.length.now c.in_ok-length.behind.now c.in_ok-item.item.now c.in_ok-item.rest.now c.read_u32.result (λ i. omega (arith, c.type_inv.bytes i))
    c.in_ok-length.ensures.cases c.read_u32.ensures c.in_ok-item.ensures.cases
