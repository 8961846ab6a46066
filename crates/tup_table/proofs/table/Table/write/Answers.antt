use Rattle.std.proofs.Common.{◌≡◌, ◌+◌, true, length, sym, ap, subst, ◌∙◌}
use Rattle.tup_table.specs.Appending.{appending}
use Rattle.tup_table.specs.Compact.{size_of}
use Rattle.tup_table.specs.Entries.{Standing, committed}
use Rattle.tup_table.specs.Slots.{standing}
use Rattle.tup_table.specs.Table.{StandsFor}
use Rattle.tup_table.specs.declared.table.Table.{Table}
use Rattle.tup_table.proofs.Committing.{next, crash_after, stands_after}
use Rattle.tup_table.proofs.Sizes.{slots_same, slots_committed}
use Rattle.tup_table.proofs.table.Table.write.Goals as goal

-- ---- the entries: as they were, and once they took the changes
pub invariant_of-entries : goal.invariant_of-entries
invariant_of-entries g c = (c.make_room.ensures.ordered, slots_same c.entries.inside.slots.entries c.make_room.new.slots.entries c.entries.inside.size c.entries.invariant.1 c.make_room.ensures.same)

pub invariant_of-entries-in-Break-branch-3 : goal.invariant_of-entries-in-Break-branch-3
invariant_of-entries-in-Break-branch-3 g c = (c.make_room.ensures.ordered, slots_same c.entries.inside.slots.entries c.make_room.new.slots.entries c.entries.inside.size c.entries.invariant.1 c.make_room.ensures.same)

pub invariant_of-entries-2 : goal.invariant_of-entries-2
invariant_of-entries-2 g c =
    let gate = c.args.self.now.gate in
    let changes = c.args.changes.now in
    let copied = c.in_ok-copies.ensures in
    let room = c.make_room.ensures.same in
    let is = c.settle.ensures.committed ∙ (λ i. committed gate (room i) (copied i)) in
    let takes = c.requires.size.0 ∙ ap (λ (es : Standing). size_of (committed gate es changes)) (sym c.entries.view_is) in
    (c.settle.ensures.ordered, slots_committed c.entries.inside.slots.entries c.settle.new.slots.entries gate changes c.args.size c.entries.invariant.1.0 c.requires.fits.0 is c.requires.size.1 takes)

-- ---- the store
pub returns-in_err-write_commit-clause-crash : goal.returns-in_err-write_commit-clause-crash
returns-in_err-write_commit-clause-crash g c = λ tells.
    let table = c.args.self.now in
    let changes = c.args.changes.now in
    let stands = c.requires.stands tells in
    let written = next g.S.Site.world g.S.Site.moment g.S.Site.left_since table changes c.args.site.now stands c.requires.fits c.as_slice.result.now (c.as_slice.ensures ∙ c.requires.bytes) in
    crash_after g.S.Site.world g.S.Site.moment g.S.Site.left_since table changes c.args.site.now stands c.requires.fits c.write_commit.new.site
    (c.write_commit.ensures.crash tells stands.commits changes stands.rests written)

pub returns-clause-stands : goal.returns-clause-stands
returns-clause-stands g c = λ tells fresh.
    let table = c.args.self.now in
    let changes = c.args.changes.now in
    let stands = c.requires.stands tells in
    let fits = c.requires.fits in
    let written = next g.S.Site.world g.S.Site.moment g.S.Site.left_since table changes c.args.site.now stands fits c.as_slice.result.now (c.as_slice.ensures ∙ c.requires.bytes) in
    let room : standing c.make_room.new.slots.entries ≡ table.entries = c.make_room.ensures.same ∙ c.entries.view_is in
    let copied = c.in_ok-copies.ensures in
    let entries : committed table.gate table.entries changes ≡ standing c.settle.new.slots.entries = sym (c.settle.ensures.committed ∙ (λ i. committed table.gate (room i) (copied i))) in
    let long : length (appending changes) ≡ length c.as_slice-2.result.now = ap length (sym (c.as_slice-2.ensures ∙ c.requires.bytes)) in
    subst (λ (t : Table). StandsFor g.S.Site.world g.S.Site.moment g.S.Site.left_since t c.write_commit.new.site)
    (λ i. record { entries = entries i; gate = table.gate + long i; fresh = true })
    (stands_after g.S.Site.world g.S.Site.moment g.S.Site.left_since table changes c.args.site.now stands fits c.write_commit.new.site
    (c.in_ok-write_commit.ensures.rests tells stands.commits changes stands.rests written))

pub returns-clause-crash : goal.returns-clause-crash
returns-clause-crash g c = λ tells.
    let table = c.args.self.now in
    let changes = c.args.changes.now in
    let stands = c.requires.stands tells in
    let written = next g.S.Site.world g.S.Site.moment g.S.Site.left_since table changes c.args.site.now stands c.requires.fits c.as_slice.result.now (c.as_slice.ensures ∙ c.requires.bytes) in
    crash_after g.S.Site.world g.S.Site.moment g.S.Site.left_since table changes c.args.site.now stands c.requires.fits c.write_commit.new.site
    (c.write_commit.ensures.crash tells stands.commits changes stands.rests written)

pub returns-clause-bytes : goal.returns-clause-bytes
returns-clause-bytes g c = λ tells.
    let table = c.args.self.now in
    let changes = c.args.changes.now in
    let stands = c.requires.stands tells in
    let written = next g.S.Site.world g.S.Site.moment g.S.Site.left_since table changes c.args.site.now stands c.requires.fits c.as_slice.result.now (c.as_slice.ensures ∙ c.requires.bytes) in
    c.in_ok-write_commit.ensures.bytes tells stands.commits changes stands.rests written
