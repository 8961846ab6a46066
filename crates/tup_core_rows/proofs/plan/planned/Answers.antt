use Rattle.std.proofs.Common.{ℕ, length, sym, ap, ◌∙◌, subst}
use Rattle.tup_core.specs.Sound.{IsMadeBy}
use Rattle.tup_core_rows.specs.Places.{AreBelow}
use Rattle.tup_core_rows.proofs.Placing.{all_are_near}
use Rattle.tup_core_rows.proofs.plan.planned.Goals as goal

pub returns-then-is_in_range-clause-near : goal.returns-then-is_in_range-clause-near
returns-then-is_in_range-clause-near c =
    let rules = c.in_ok-new.field-0 in
    let places = c.in_ok-all_places.field-0 in
    let many = ap length c.as_slice.ensures ∙ sym (ap length c.in_ok-new.ensures ∙ c.in_ok-clone.ensures.cases.1) in
    all_are_near rules places (subst (λ (count : ℕ). AreBelow count places) many c.in_ok-all_places.ensures) (IsMadeBy rules c.args.reach)
