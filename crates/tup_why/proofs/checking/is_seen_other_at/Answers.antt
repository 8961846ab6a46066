use Rattle.std.proofs.Common.{◌∙◌, sym}
use Rattle.std.proofs.lemmas.Bool.{false≢true}
use Rattle.tup_path.proofs.Same.{same_path-decides}
use Rattle.tup_why.proofs.checking.is_seen_other_at.Goals as goal

pub returns-then-eq-clause-other : goal.returns-then-eq-clause-other
returns-then-eq-clause-other c = λ t.
    let asked = c.args.wrote.now in
    let path = c.args.path.now in
    ((same_path-decides asked path).0 (sym c.eq.ensures ∙ c.if-eq.true), c.is_seen_other.ensures.other t)

pub returns-else-eq-clause-same : goal.returns-else-eq-clause-same
returns-else-eq-clause-same c = λ off same. absurd (false≢true (sym off ∙ c.eq.ensures ∙ (same_path-decides c.args.wrote.now c.args.path.now).1 same))
