use Rattle.std.proofs.Common.{◌≡◌, true, false, sym, ◌∙◌}
use Rattle.tup_vars.specs.Name.{is_free}
use Rattle.tup_query.proofs.Went.{went_along, went_refuses}
use Rattle.tup_tupfile.proofs.Conditions.{value-bad, value-free}
use Rattle.tup_tupfile.proofs.setting.value_of.Goals as goal

pub returns-then-not-is_free : goal.returns-then-not-is_free
returns-then-not-is_free g c =
    let a = c.args in
    let bad : is_free a.name.now ≡ false = sym c.is_free.ensures ∙ c.if-not-is_free.true in
    went_along _ _ (value-bad a.at.now a.variables.now a.name.now a.text.now bad) (went_refuses _ _ _ _ _ c.requires c.refuse.ensures)

pub returns : goal.returns
returns g c =
    let a = c.args in
    let free : is_free a.name.now ≡ true = sym c.is_free.ensures ∙ c.if-not-is_free.false in
    went_along _ _ (value-free a.at.now a.variables.now a.name.now a.text.now free) c.expanded.ensures.went
