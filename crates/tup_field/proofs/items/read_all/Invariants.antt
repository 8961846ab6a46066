use Rattle.std.proofs.Common.{◌≡◌, ◌-◌}
use Rattle.tup_field.specs.Parts.{many_at}
use Rattle.tup_field.proofs.Lists.{with_front}
use Rattle.tup_field.proofs.items.read_all.Given as goal

abbrev pub invariant-loop : goal.invariant-loop
invariant-loop g l = with_front l.items (many_at g.T.Field.format.reading (l.count - l.counter) l.reader) ≡ many_at g.T.Field.format.reading l.count l.fn.reader
