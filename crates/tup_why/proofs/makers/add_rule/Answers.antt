use Rattle.std.proofs.Common.{List, subst, sym}
use Rattle.std.specs.Result.{OnOk}
use Rattle.tup_path.specs.Name.{Names}
use Rattle.tup_closure.specs.Grows.{Grows}
use Rattle.tup_closure.specs.Lists.{IsListed}
use Rattle.tup_why.specs.Makers.{IsOneOf}
use Rattle.std.proofs.lemmas.Result.{on_ok_weaker}
use Rattle.tup_why.proofs.Making.{outputs_added, nothing_added}
use Rattle.tup_why.proofs.makers.add_rule.Goals as goal

pub returns-in-Some-clause-grows : goal.returns-in-Some-clause-grows
returns-in-Some-clause-grows c =
    on_ok_weaker c.add_outputs.result
    (outputs_added c.args.rules.now c.args.number c.in-Some.rule.now c.args.makers.now c.add_outputs.new.makers (sym c.in-Some.ensures))
    (subst (λ (outputs : List Names). OnOk c.add_outputs.result (Grows (IsOneOf outputs c.args.number) (IsListed c.args.makers.now) (IsListed c.add_outputs.new.makers))) c.as_slice.ensures c.add_outputs.ensures.grows)

pub returns-in-None-clause-grows : goal.returns-in-None-clause-grows
returns-in-None-clause-grows c = nothing_added c.args.rules.now c.args.number c.args.makers.now (sym c.in-None.ensures)
