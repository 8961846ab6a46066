use Rattle.std.proofs.Common.{◌≡◌}
use Rattle.std.proofs.lemmas.Map.Iter.{rest_more}
use Rattle.tup_query.proofs.OfKind.{kind_first, kind_kept}
use Rattle.tup_query.proofs.log.Log.noted.Goals as goal

pub new-requires : goal.new-requires
new-requires c =
    let left = c.loop-key.key-iterator in
    let first = rest_more (λ p. p) left c.next.new.self c.next.result (c.in-Some.key, c.in-Some.told) c.in-Some.is c.next.ensures.steps in
    rw (c.key.view_is, c.noted.ensures) (kind_kept c.in-Some.key c.in-Some.told (kind_first left c.next.new.self c.in-Some.key c.in-Some.told first c.loop-key.invariant.kinds).0)
