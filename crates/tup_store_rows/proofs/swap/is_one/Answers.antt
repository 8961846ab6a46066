use Rattle.std.proofs.Common.{ℕ, ◌<◌, subst}
use Rattle.std.proofs.lemmas.Bool.{ltb-true}
use Rattle.tup_store_rows.proofs.Once.{once}
use Rattle.tup_store_rows.proofs.swap.is_one.Goals as goal

pub returns : goal.returns
returns c = λ few. once c.args.fresh.now.readings (subst (λ (n : ℕ). n < 2) c.len.ensures (ltb-true c.len.result 2 few))
