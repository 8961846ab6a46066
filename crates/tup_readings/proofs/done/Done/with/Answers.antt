use Rattle.std.proofs.Common.{List, subst}
use Rattle.tup_rule.specs.declared.draft.Draft.{Draft}
use Rattle.tup_readings.specs.Done.{AreOutputs}
use Rattle.tup_readings.proofs.Making.{know_more}
use Rattle.tup_readings.proofs.done.Done.with.Goals as goal

pub invariant_of-result : goal.invariant_of-result
invariant_of-result c =
    let kept = c.self.inside in
    let set = c.in_ok-set.set in
    let are = subst (λ (l : List Draft). AreOutputs l set) c.as_slice.ensures c.in_ok-set.ensures in
    rw (c.in_ok-insert.ensures.ok, c.in_ok-insert-2.ensures.ok, c.in_ok-clone.ensures.cases) (know_more kept.readings kept.outputs c.args.dir c.args.reading set c.self.invariant are)
