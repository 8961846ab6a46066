use Rattle.std.proofs.Common.{◌≡◌, ◌∷◌, ◌++◌, [], sym, ap, subst, ◌∙◌}
use Rattle.tup_table.specs.Compact.{EntriesFit}
use Rattle.tup_table.specs.Entries.{Standing, changed}
use Rattle.tup_table.specs.Slots.{Slots, gathered, slot_of, standing}
use Rattle.tup_table.proofs.Gathering.{change_gathered, gathered_fits}
use Rattle.tup_table.proofs.gathered.Gathered.apply.Goals as goal

pub invariant_of-self : goal.invariant_of-self
invariant_of-self c = subst (λ (slots : Slots). EntriesFit (standing (gathered [] slots))) (sym c.in_err-push.ensures.err) c.self.invariant

pub invariant_of-self-2 : goal.invariant_of-self-2
invariant_of-self-2 c =
    let slots = c.self.inside.slots in
    let now : c.push.new.self ≡ slots ++ slot_of c.args.origin c.args.change ∷ [] = c.in_ok-push.ensures.ok in
    subst (λ (all : Slots). EntriesFit (standing (gathered [] all))) (sym now) (gathered_fits slots c.args.origin c.args.change c.requires c.self.invariant)

pub returns-clause-ok : goal.returns-clause-ok
returns-clause-ok c =
    let slots = c.self.inside.slots in
    let now : c.push.new.self ≡ slots ++ slot_of c.args.origin c.args.change ∷ [] = c.in_ok-push.ensures.ok in
    ap (λ (all : Slots). standing (gathered [] all)) now ∙ change_gathered slots c.args.origin c.args.change ∙ ap (λ (es : Standing). changed c.args.origin es c.args.change) c.self.view_is
