use Rattle.std.proofs.Common.{◌≡◌, [], sym, ap, subst, ◌∙◌}
use Rattle.tup_table.specs.Compact.{EntriesFit}
use Rattle.tup_table.specs.Slots.{Slots, gathered, standing}
use Rattle.tup_table.proofs.gathered.Gathered.into_entries.Goals as goal

pub invariant_of-result : goal.invariant_of-result
invariant_of-result c =
    let made : c.in_ok-slots.slots.entries ≡ gathered [] c.self.inside.slots = c.in_ok-slots.ensures.entries ∙ ap (gathered []) c.into_vec.ensures in
    (c.in_ok-slots.ensures.ordered, (subst (λ (slots : Slots). EntriesFit (standing slots)) (sym made) c.self.invariant, c.in_ok-size.ensures.0, c.in_ok-size.ensures.1))

pub returns : goal.returns
returns c =
    let made : c.in_ok-slots.slots.entries ≡ gathered [] c.self.inside.slots = c.in_ok-slots.ensures.entries ∙ ap (gathered []) c.into_vec.ensures in
    ap standing made ∙ c.self.view_is
