use Rattle.tup_field.specs.Values.{name}
use Rattle.tup_field.proofs.Lists.{IsLeft}
use Rattle.tup_field.proofs.path.write_names.Given as goal

abbrev pub invariant-loop-name : goal.invariant-loop-name
invariant-loop-name l = IsLeft name l.names l.name-index l.fn.bytes l.bytes
