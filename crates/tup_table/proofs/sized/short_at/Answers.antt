use Rattle.std.proofs.Common.{arith}
use Rattle.tup_table.proofs.Apart.{short_front}
use Rattle.tup_table.proofs.sized.short_at.Goals as goal

pub returns : goal.returns
returns c =
    short_front c.args.bytes.now c.in_ok-length.length.now c.in_ok-length.behind.now c.in_ok-item.item.now c.in_ok-item.rest.now c.read_u16.result (λ i. omega (arith, c.type_inv.bytes i))
    c.in_ok-length.ensures.cases c.read_u16.ensures c.in_ok-item.ensures.cases
