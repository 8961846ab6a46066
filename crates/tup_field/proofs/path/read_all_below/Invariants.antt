use Rattle.std.proofs.Common.{◌≡◌, ◌-◌, length}
use Rattle.tup_field.specs.Parts.{many_at}
use Rattle.tup_field.specs.Values.{name}
use Rattle.tup_field.proofs.Lists.{with_front}
use Rattle.tup_field.proofs.path.read_all_below.Given as goal

abbrev pub invariant-loop : goal.invariant-loop
invariant-loop l = (length l.path ≡ l.counter) × (with_front l.path (many_at name.reading (l.depth - l.counter) l.reader) ≡ many_at name.reading l.depth l.fn.reader)
