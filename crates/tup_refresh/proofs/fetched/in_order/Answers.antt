use Rattle.std.proofs.Common.{◌∙◌, arith}
use Rattle.std.specs.BTreeSet.{IsFromIterResult}
use Rattle.std.proofs.lemmas.Iterator.Adapters.{YieldsList-from_vec, fact_from_collect}
use Rattle.std.proofs.lemmas.Result.{IfOk-weaker}
use Rattle.tup_path.specs.Order.{by_names}
use Rattle.tup_refresh.proofs.Fetching.{members}
use Rattle.tup_refresh.proofs.fetched.in_order.Goals as goal

pub returns : goal.returns
returns c =
    let paths = c.args.paths.items in
    IfOk-weaker c.collect.result _ _ (λ set made path. made.0 path ∙ members path paths) (fact_from_collect (IsFromIterResult by_names) c.collect.result c.collect.ensures.ran
    (YieldsList-from_vec paths c.into_iter.ensures.rest (omega (arith, c.into_iter.ensures.len, c.args.paths.ok.0))))
