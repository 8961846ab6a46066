use Rattle.std.proofs.Common.{◌≡◌, [], inr, refl, rules}
use Rattle.tup_table.specs.Front.{Front, NoFront}
use Rattle.tup_table.specs.Store.{change_spelling, ChangeFits}
use Rattle.tup_table.proofs.Stores.{read_more, read_not}
use Rattle.tup_table.proofs.reading.take_changes.Goals as goal

pub returns-in_default : goal.returns-in_default
returns-in_default c =
    let some : c.changes.reader ≡ [] → ⊥ = search rules in
    let none : NoFront ChangeFits change_spelling c.changes.reader = c.in_default.ensures in
    inr (refl, read_not c.args.origin c.args.entries.now c.args.payload.now c.changes.reader c.changes.entries c.changes.invariant some none)

pub changes-preserved : goal.changes-preserved
changes-preserved c =
    let front : Front ChangeFits change_spelling c.changes.reader c.in-Some.change c.next_change.new.reader = c.in-Some.ensures in
    read_more c.args.origin c.args.entries.now c.args.payload.now c.changes.reader c.changes.entries c.changes.invariant c.in-Some.change c.next_change.new.reader c.apply.new.self front c.in_ok-apply.ensures.ok
