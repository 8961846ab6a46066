use Rattle.tup_rule_line.proofs.Sets.{places_more}
use Rattle.tup_rule_line.proofs.places.Places.with.Goals as goal

pub invariant_of-result : goal.invariant_of-result
invariant_of-result c =
    let kept = c.self.inside in
    rw (c.in_ok-push.ensures.ok, c.in_ok-set.ensures, c.in_ok-clone.ensures.cases) (places_more kept.set kept.paths c.args.path c.self.invariant)
