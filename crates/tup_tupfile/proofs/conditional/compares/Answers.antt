use Rattle.std.proofs.Common.{◌≡◌, Some, None, option_map, ap, sym, ◌∙◌}
use Rattle.tup_tupfile.specs.Conditional.{sides}
use Rattle.tup_query.proofs.Went.{went_along, went_refuses}
use Rattle.tup_tupfile.proofs.Conditions.{compares-some, compares-none}
use Rattle.tup_tupfile.proofs.conditional.compares.Goals as goal

pub returns-in-Some : goal.returns-in-Some
returns-in-Some g c =
    let cut : sides c.args.text.now ≡ Some (c.in-Some.left.now, c.in-Some.right.now) = sym c.sides.ensures ∙ ap (option_map (λ cut. (cut.0.now, cut.1.now))) c.in-Some.is in
    went_along _ _ (compares-some c.args.at.now c.args.variables.now c.args.alike c.args.text.now c.in-Some.left.now c.in-Some.right.now cut) c.compared.ensures

pub returns-in-None : goal.returns-in-None
returns-in-None g c =
    let none : sides c.args.text.now ≡ None = sym c.sides.ensures ∙ ap (option_map (λ cut. (cut.0.now, cut.1.now))) c.in-None.is in
    went_along _ _ (compares-none c.args.at.now c.args.variables.now c.args.alike c.args.text.now none) (went_refuses _ _ _ _ _ c.requires c.refuse.ensures)
