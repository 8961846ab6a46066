use Rattle.std.proofs.Common.{◌≡◌, length, sym, ap, ◌∙◌, subst, arith}
use Rattle.std.proofs.lemmas.List.{length-replicate, with_items_is}
use Rattle.tup_core.specs.Links.{AreListed}
use Rattle.tup_core.proofs.LinksLaws.{listed_none}
use Rattle.tup_core.proofs.links.readers_by.Goals as goal

pub note_rules-requires-clause-below : goal.note_rules-requires-clause-below
note_rules-requires-clause-below c = λ path at is.
    let within = c.requires.below path at is in
    let long : length c.deref_mut.result.now ≡ length c.args.rules.now = ap length (c.deref_mut.ensures.value ∙ c.in_ok-lists.ensures) ∙ length-replicate (length c.args.rules.now) _ in
    omega (arith, within, long)

pub note_rules-requires-clause-none : goal.note_rules-requires-clause-none
note_rules-requires-clause-none c =
    listed_none c.args.rules.now c.args.makers.now c.deref_mut.result.now (length c.args.rules.now) (c.deref_mut.ensures.value ∙ c.in_ok-lists.ensures)
    (ap length (c.deref_mut.ensures.value ∙ c.in_ok-lists.ensures) ∙ length-replicate (length c.args.rules.now) _)

pub returns : goal.returns
returns c =
    let long : length c.note_rules.new.lists ≡ c.in_ok-lists.lists.len = omega arith in
    subst (AreListed c.args.rules.now c.args.makers.now (length c.args.rules.now)) (sym (with_items_is c.in_ok-lists.lists c.note_rules.new.lists long)) c.in_ok-note_rules.ensures
