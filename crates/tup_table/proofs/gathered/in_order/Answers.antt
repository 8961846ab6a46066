use Rattle.std.proofs.Common.{arith, subst}
use Rattle.std.specs.BTreeMap.{IsFromIterResult}
use Rattle.std.proofs.lemmas.Iterator.Adapters.{YieldsList-from_vec, fact_from_collect}
use Rattle.std.proofs.lemmas.Result.{IfOk-weaker}
use Rattle.tup_path.specs.Order.{by_bytes}
use Rattle.tup_table.specs.Slots.{LeaveAlike}
use Rattle.tup_table.proofs.Gathering.{made_of}
use Rattle.tup_table.proofs.gathered.in_order.Goals as goal

pub returns-clause-entries : goal.returns-clause-entries
returns-clause-entries c =
    let kept = c.in_ok-kept.kept.items in
    IfOk-weaker c.collect.result _ _ (λ map made. made_of c.args.slots.items c.in_ok-sorted.sorted.items kept c.in_ok-sorted.ensures (subst (LeaveAlike kept) c.as_slice.ensures.value c.in_ok-kept.ensures) map made) (fact_from_collect (IsFromIterResult by_bytes) c.collect.result c.collect.ensures.ran
    (YieldsList-from_vec kept c.into_iter.ensures.rest (omega (arith, c.into_iter.ensures.len, c.in_ok-kept.kept.ok.0))))

pub returns-clause-ordered : goal.returns-clause-ordered
returns-clause-ordered c =
    let kept = c.in_ok-kept.kept.items in
    IfOk-weaker c.collect.result _ _ (λ map made. made.1) (fact_from_collect (IsFromIterResult by_bytes) c.collect.result c.collect.ensures.ran
    (YieldsList-from_vec kept c.into_iter.ensures.rest (omega (arith, c.into_iter.ensures.len, c.in_ok-kept.kept.ok.0))))
