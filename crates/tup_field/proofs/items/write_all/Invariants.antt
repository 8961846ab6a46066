use Rattle.tup_field.proofs.Lists.{IsLeft}
use Rattle.tup_field.proofs.items.write_all.Given as goal

abbrev pub invariant-loop-item : goal.invariant-loop-item
invariant-loop-item g l = IsLeft g.T.Field.format l.items l.item-index l.fn.bytes l.bytes
