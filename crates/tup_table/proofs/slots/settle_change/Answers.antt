use Rattle.std.proofs.Common.{◌≡◌, sym, subst, ◌∙◌}
use Rattle.tup_table.specs.Entries.{changed}
use Rattle.tup_table.specs.Slots.{standing}
use Rattle.tup_table.specs.declared.change.Change.{Change}
use Rattle.tup_table.proofs.Kept.{put_slot, empty_slot, absent}
use Rattle.tup_table.proofs.slots.settle_change.Goals as goal

pub returns-in-Put-clause-changed : goal.returns-in-Put-clause-changed
returns-in-Put-clause-changed c =
    let old = c.args.slots.now.entries in
    let new = c.put.new.slots.entries in
    subst (λ (change : Change). standing new ≡ changed c.args.origin (standing old) change) (sym c.in-Put.is)
    (put_slot old new c.requires.ordered c.in-Put.key (record { value = c.in-Put.value; origin = c.args.origin }) c.put.ensures.entries)

pub returns-then-contains_key-clause-changed : goal.returns-then-contains_key-clause-changed
returns-then-contains_key-clause-changed c =
    let old = c.args.slots.now.entries in
    let put = c.put-then-contains_key in
    subst (λ (change : Change). standing put.new.slots.entries ≡ changed c.args.origin (standing old) change) (sym c.in-Delete.is)
    (empty_slot old put.new.slots.entries c.requires.ordered c.in-Delete.key put.ensures.entries)

pub returns-else-contains_key-clause-changed : goal.returns-else-contains_key-clause-changed
returns-else-contains_key-clause-changed c =
    let old = c.args.slots.now.entries in
    subst (λ (change : Change). standing old ≡ changed c.args.origin (standing old) change) (sym c.in-Delete.is)
    (sym (absent old c.in-Delete.key (sym c.contains_key.ensures ∙ c.if-contains_key.false)))
