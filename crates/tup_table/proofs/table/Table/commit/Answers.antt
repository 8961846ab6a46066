use Rattle.std.proofs.Common.{sym, ap, ◌∙◌}
use Rattle.std.proofs.lemmas.Result.{err_from_is_err_and, on_ok_weaker}
use Rattle.tup_table.specs.Table.{entries_in, is_fresh, after_commit}
use Rattle.tup_table.proofs.Committing.{nothing_done, step_now}
use Rattle.tup_table.proofs.Commits.{due_refused, due_fits, plain_leaves, plain_bytes, compact_refused, write_refused, first_bytes_after}
use Rattle.tup_table.proofs.Readying.{first_small, not_over, plain_after, plain_room, plain_size, first_after, first_room, first_size, commit_goes_plain, compact_goes, commit_goes_first}
use Rattle.tup_table.proofs.table.Table.commit.Goals as goal

-- ---- nothing was written
pub returns-in_err-bytes-clause-leaves : goal.returns-in_err-bytes-clause-leaves
returns-in_err-bytes-clause-leaves g c =
    let p = err_from_is_err_and c.from_residual.result c.from_residual.ensures.1 in
    rw (p.1, p.2) (due_refused c.args.changes.now c.args.self.now c.args.site.now c.in_err-bytes.field-0.0 c.in_err-bytes.ensures)

pub returns-in_err-bytes-clause-fits : goal.returns-in_err-bytes-clause-fits
returns-in_err-bytes-clause-fits g c = λ over.
    let p = err_from_is_err_and c.from_residual.result c.from_residual.ensures.1 in
    rw (p.1, p.2) (due_fits c.args.self.now c.args.changes.now c.in_err-bytes.field-0.0 c.in_err-bytes.ensures)

pub returns-in_err-bytes-clause-keeps : goal.returns-in_err-bytes-clause-keeps
returns-in_err-bytes-clause-keeps g c = λ tells.
    nothing_done g.S.Site.world g.S.Site.moment g.S.Site.left_since c.args.self.now (entries_in (after_commit c.args.self.now c.args.changes.now)) c.args.site.now (c.requires.stands tells)

-- ---- the store isn't compacted first
pub write-requires : goal.write-requires
write-requires g c =
    let due = c.in_ok-bytes.field-0 in
    let is = c.in_ok-bytes.ensures in
    let table = c.args.self.now in
    let changes = c.args.changes.now in
    record {
      fresh = c.requires.fresh;
      fits = is.fits;
      bytes = is.bytes;
      room = plain_room table changes due is c.if-not-first.true;
      size = (plain_size table changes due is c.if-not-first.true, is.small);
      stands = c.requires.stands;
    }

pub returns-then-not-first-clause-leaves : goal.returns-then-not-first-clause-leaves
returns-then-not-first-clause-leaves g c =
    let due = c.in_ok-bytes.field-0 in
    let is = c.in_ok-bytes.ensures in
    let table = c.args.self.now in
    let changes = c.args.changes.now in
    plain_leaves changes table c.write.new.self c.args.site.now c.write.new.site c.write.result (plain_after table changes due is c.if-not-first.true) c.write.ensures.leaves

pub returns-then-not-first-clause-fits : goal.returns-then-not-first-clause-fits
returns-then-not-first-clause-fits g c = λ over. absurd (not_over c.args.self.now c.args.changes.now c.in_ok-bytes.field-0 c.in_ok-bytes.ensures over)

pub returns-then-not-first-clause-bytes : goal.returns-then-not-first-clause-bytes
returns-then-not-first-clause-bytes g c = λ tells.
    let is = c.in_ok-bytes.ensures in
    on_ok_weaker c.write.result
    (λ there. there ∙ plain_bytes c.args.self.now c.args.changes.now (g.S.Site.world c.args.site.now).store (sym is.first ∙ c.if-not-first.true))
    (c.write.ensures.bytes tells)

pub returns-then-not-first-clause-crash : goal.returns-then-not-first-clause-crash
returns-then-not-first-clause-crash g c = λ tells.
    let is = c.in_ok-bytes.ensures in
    commit_goes_plain g.S.Site.moment g.S.Site.left_since c.args.self.now c.args.changes.now (sym is.first ∙ c.if-not-first.true) c.args.site.now c.write.new.site (c.write.ensures.crash tells)

pub returns-then-not-first-clause-keeps : goal.returns-then-not-first-clause-keeps
returns-then-not-first-clause-keeps g c = λ tells.
    let site_laws = g.met.S.Site in
    let is = c.in_ok-bytes.ensures in
    let table = c.args.self.now in
    let changes = c.args.changes.now in
    let end = c.write.new.site in
    step_now g.S.Site.world g.S.Site.moment g.S.Site.left_since table (entries_in (after_commit table changes)) c.args.site.now (c.requires.stands tells) end (c.write.ensures.tree tells) (λ t u w le left. site_laws.earlier end t u w tells le left)
    (site_laws.present end tells)
    (commit_goes_plain g.S.Site.moment g.S.Site.left_since table changes (sym is.first ∙ c.if-not-first.true) c.args.site.now end (c.write.ensures.crash tells))

-- ---- it is
pub compacted-requires : goal.compacted-requires
compacted-requires g c = record { fresh = c.requires.fresh; small = first_small c.args.self.now c.args.changes.now (sym c.in_ok-bytes.ensures.first ∙ c.if-not-first.false); stands = c.requires.stands }

pub returns-in_err-table-clause-leaves : goal.returns-in_err-table-clause-leaves
returns-in_err-table-clause-leaves g c =
    let p = err_from_is_err_and c.from_residual-in_err-table.result c.from_residual-in_err-table.ensures.1 in
    rw (p.1, p.2) (compact_refused c.args.changes.now c.args.self.now c.compacted.new.self c.args.site.now c.compacted.new.site c.in_err-table.field-0.0 c.in_err-table.ensures.fails)

pub returns-in_err-table-clause-fits : goal.returns-in_err-table-clause-fits
returns-in_err-table-clause-fits g c = λ over. absurd (not_over c.args.self.now c.args.changes.now c.in_ok-bytes.field-0 c.in_ok-bytes.ensures over)

pub returns-in_err-table-clause-crash : goal.returns-in_err-table-clause-crash
returns-in_err-table-clause-crash g c = λ tells.
    compact_goes g.S.Site.moment g.S.Site.left_since c.args.self.now c.args.changes.now c.keys_ascend.ensures (sym c.in_ok-bytes.ensures.first ∙ c.if-not-first.false) c.args.site.now c.compacted.new.site (c.compacted.ensures.crash tells)

pub write-requires-2 : goal.write-requires-2
write-requires-2 g c =
    let due = c.in_ok-bytes.field-0 in
    let is = c.in_ok-bytes.ensures in
    let table = c.args.self.now in
    let changes = c.args.changes.now in
    let made = c.in_ok-table.ensures.table in
    let first = c.if-not-first.false in
    record {
      fresh = ap is_fresh made;
      fits = is.fits;
      bytes = is.bytes;
      room = first_room table changes due is first c.in_ok-table.table made;
      size = (first_size table changes due is first c.in_ok-table.table made, is.small);
      stands = c.in_ok-table.ensures.stands;
    }

pub returns-in_err-table-clause-keeps : goal.returns-in_err-table-clause-keeps
returns-in_err-table-clause-keeps g c = λ tells.
    let site_laws = g.met.S.Site in
    let table = c.args.self.now in
    let changes = c.args.changes.now in
    let end = c.compacted.new.site in
    step_now g.S.Site.world g.S.Site.moment g.S.Site.left_since table (entries_in (after_commit table changes)) c.args.site.now (c.requires.stands tells) end (c.compacted.ensures.tree tells) (λ t u w le left. site_laws.earlier end t u w tells le left)
    (site_laws.present end tells)
    (compact_goes g.S.Site.moment g.S.Site.left_since table changes c.keys_ascend.ensures (sym c.in_ok-bytes.ensures.first ∙ c.if-not-first.false) c.args.site.now end (c.compacted.ensures.crash tells))

pub returns-in_err-write-clause-leaves : goal.returns-in_err-write-clause-leaves
returns-in_err-write-clause-leaves g c =
    let p = err_from_is_err_and c.from_residual-in_err-write.result c.from_residual-in_err-write.ensures.1 in
    rw (p.1, p.2) (write_refused c.args.changes.now c.args.self.now c.compacted.new.self c.in_ok-table.table c.write-2.new.self c.args.site.now c.compacted.new.site c.write-2.new.site c.in_err-write.field-0.0 c.in_ok-table.ensures.made c.in_err-write.ensures.leaves)

pub returns-in_err-write-clause-fits : goal.returns-in_err-write-clause-fits
returns-in_err-write-clause-fits g c = λ over. absurd (not_over c.args.self.now c.args.changes.now c.in_ok-bytes.field-0 c.in_ok-bytes.ensures over)

pub returns-in_err-write-clause-crash : goal.returns-in_err-write-clause-crash
returns-in_err-write-clause-crash g c = λ tells.
    let site_laws = g.met.S.Site in
    let mid = c.compacted.new.site in
    commit_goes_first g.S.Site.moment g.S.Site.left_since c.args.self.now c.args.changes.now c.keys_ascend.ensures (sym c.in_ok-bytes.ensures.first ∙ c.if-not-first.false) c.args.site.now mid c.write-2.new.site c.in_ok-table.table
    c.in_ok-table.ensures.table (λ t u w le left. site_laws.earlier mid t u w tells le left) (c.compacted.ensures.crash tells) (c.write-2.ensures.crash tells)

pub returns-in_err-write-clause-keeps : goal.returns-in_err-write-clause-keeps
returns-in_err-write-clause-keeps g c = λ tells.
    let site_laws = g.met.S.Site in
    let table = c.args.self.now in
    let changes = c.args.changes.now in
    let mid = c.compacted.new.site in
    let end = c.write-2.new.site in
    step_now g.S.Site.world g.S.Site.moment g.S.Site.left_since table (entries_in (after_commit table changes)) c.args.site.now (c.requires.stands tells) end (c.write-2.ensures.tree tells ∙ c.compacted.ensures.tree tells)
    (λ t u w le left. site_laws.earlier end t u w tells le left) (site_laws.present end tells)
    (commit_goes_first g.S.Site.moment g.S.Site.left_since table changes c.keys_ascend.ensures (sym c.in_ok-bytes.ensures.first ∙ c.if-not-first.false) c.args.site.now mid end c.in_ok-table.table c.in_ok-table.ensures.table
    (λ t u w le left. site_laws.earlier mid t u w tells le left) (c.compacted.ensures.crash tells) (c.write-2.ensures.crash tells))

pub returns-clause-leaves : goal.returns-clause-leaves
returns-clause-leaves g c =
    c.in_ok-write.ensures.leaves ∙ first_after c.args.self.now c.args.changes.now c.in_ok-bytes.field-0 c.in_ok-bytes.ensures c.if-not-first.false c.in_ok-table.table c.in_ok-table.ensures.table

pub returns-clause-fits : goal.returns-clause-fits
returns-clause-fits g c = λ over. absurd (not_over c.args.self.now c.args.changes.now c.in_ok-bytes.field-0 c.in_ok-bytes.ensures over)

pub returns-clause-bytes : goal.returns-clause-bytes
returns-clause-bytes g c = λ tells.
    c.in_ok-write.ensures.bytes tells
    ∙ first_bytes_after c.args.self.now c.args.changes.now (g.S.Site.world c.args.site.now).store (sym c.in_ok-bytes.ensures.first ∙ c.if-not-first.false) c.in_ok-table.table c.in_ok-table.ensures.table (g.S.Site.world c.compacted.new.site).store
    (c.in_ok-table.ensures.bytes tells)

pub returns-clause-crash : goal.returns-clause-crash
returns-clause-crash g c = λ tells.
    let site_laws = g.met.S.Site in
    let mid = c.compacted.new.site in
    commit_goes_first g.S.Site.moment g.S.Site.left_since c.args.self.now c.args.changes.now c.keys_ascend.ensures (sym c.in_ok-bytes.ensures.first ∙ c.if-not-first.false) c.args.site.now mid c.write-2.new.site c.in_ok-table.table
    c.in_ok-table.ensures.table (λ t u w le left. site_laws.earlier mid t u w tells le left) (c.compacted.ensures.crash tells) (c.write-2.ensures.crash tells)

pub returns-clause-keeps : goal.returns-clause-keeps
returns-clause-keeps g c = λ tells.
    let site_laws = g.met.S.Site in
    let table = c.args.self.now in
    let changes = c.args.changes.now in
    let mid = c.compacted.new.site in
    let end = c.write-2.new.site in
    step_now g.S.Site.world g.S.Site.moment g.S.Site.left_since table (entries_in (after_commit table changes)) c.args.site.now (c.requires.stands tells) end (c.write-2.ensures.tree tells ∙ c.compacted.ensures.tree tells)
    (λ t u w le left. site_laws.earlier end t u w tells le left) (site_laws.present end tells)
    (commit_goes_first g.S.Site.moment g.S.Site.left_since table changes c.keys_ascend.ensures (sym c.in_ok-bytes.ensures.first ∙ c.if-not-first.false) c.args.site.now mid end c.in_ok-table.table c.in_ok-table.ensures.table
    (λ t u w le left. site_laws.earlier mid t u w tells le left) (c.compacted.ensures.crash tells) (c.write-2.ensures.crash tells))
