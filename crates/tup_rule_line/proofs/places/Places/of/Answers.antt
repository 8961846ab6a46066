use Rattle.tup_rule_line.proofs.Sets.{places_of}
use Rattle.tup_rule_line.proofs.places.Places.of.Goals as goal

pub invariant_of-result : goal.invariant_of-result
invariant_of-result c = rw (c.in_ok-set.ensures, c.as_slice.ensures, c.new.ensures) (places_of c.in_ok-paths.paths)
