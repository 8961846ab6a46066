use Rattle.tup_core.specs.Step.{opening}
use Rattle.tup_core.specs.Planned.{clean_of}
use Rattle.tup_core.proofs.Settled.{settled_same}
use Rattle.tup_core.proofs.Opening.{unreached_settled}
use Rattle.tup_core.proofs.laws.unreached_stand.Goals as goal

pub returns : goal.returns
returns c = λ next known kept tree plan files at rule planned here unreached good.
    let settled = unreached_settled next known kept tree plan files planned at rule here unreached good in
    (settled.good, λ path own. (settled_same known (clean_of next kept tree plan) (opening plan files).files at rule path settled own).same)
