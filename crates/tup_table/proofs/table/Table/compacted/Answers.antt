use Rattle.std.proofs.Common.{length, refl, sym, ap, subst, ◌∙◌, inl, inr, ⊎_elim}
use Rattle.std.proofs.lemmas.Result.{err_from_is_err_and}
use Rattle.byteorder.specs.Endian.{big_bytes}
use Rattle.tup_table.specs.Table.{StandsFor, table_of}
use Rattle.tup_table.specs.declared.table.Table.{Table}
use Rattle.tup_table.proofs.Compacted.{old_long, area_so, small_so, crash_so, bytes_so, stands_so}
use Rattle.tup_table.proofs.table.Table.compacted.Goals as goal

pub returns-in_err-snapshot-clause-fails : goal.returns-in_err-snapshot-clause-fails
returns-in_err-snapshot-clause-fails g c =
    let p = err_from_is_err_and c.from_residual.result c.from_residual.ensures.1 in
    rw (p.1, p.2) (inr (c.in_err-snapshot.ensures, inr (refl, refl)))

pub returns-in_err-write_compact-clause-fails : goal.returns-in_err-write_compact-clause-fails
returns-in_err-write_compact-clause-fails g c =
    let p = err_from_is_err_and c.from_residual-in_err-write_compact.result c.from_residual-in_err-write_compact.ensures.1 in
    rw (p.1, p.2) (⊎_elim (λ site. inl (site, refl)) (λ memory. inr (memory, inl refl)) c.in_err-write_compact.ensures.outside)

pub write_compact-requires : goal.write_compact-requires
write_compact-requires g c = record { inside = λ tells. old_long g.S.Site.world g.S.Site.moment g.S.Site.left_since c.args.self.now c.args.site.now (c.requires.stands tells) }

pub returns-in_err-write_compact-clause-crash : goal.returns-in_err-write_compact-clause-crash
returns-in_err-write_compact-clause-crash g c = λ tells.
    let stands = c.requires.stands tells in
    let area = area_so g.S.Site.world g.S.Site.moment g.S.Site.left_since c.args.self.now c.args.site.now stands c.as_slice.result.now (c.as_slice.ensures ∙ c.in_ok-snapshot.ensures.0) in
    let small = small_so g.S.Site.world g.S.Site.moment g.S.Site.left_since c.args.self.now c.args.site.now stands c.requires.small in
    crash_so g.S.Site.world g.S.Site.moment g.S.Site.left_since c.args.self.now c.args.site.now stands c.write_compact.new.site (c.write_compact.ensures.crash tells stands.commits stands.rests area small)

pub returns-clause-crash : goal.returns-clause-crash
returns-clause-crash g c = λ tells.
    let stands = c.requires.stands tells in
    let area = area_so g.S.Site.world g.S.Site.moment g.S.Site.left_since c.args.self.now c.args.site.now stands c.as_slice.result.now (c.as_slice.ensures ∙ c.in_ok-snapshot.ensures.0) in
    let small = small_so g.S.Site.world g.S.Site.moment g.S.Site.left_since c.args.self.now c.args.site.now stands c.requires.small in
    crash_so g.S.Site.world g.S.Site.moment g.S.Site.left_since c.args.self.now c.args.site.now stands c.write_compact.new.site (c.write_compact.ensures.crash tells stands.commits stands.rests area small)

pub returns-clause-table : goal.returns-clause-table
returns-clause-table g c = c.of.ensures ∙ ap table_of c.in_ok-snapshot.ensures.1

pub returns-clause-stands : goal.returns-clause-stands
returns-clause-stands g c = λ tells.
    let world = g.S.Site.world in
    let moment = g.S.Site.moment in
    let left_since = g.S.Site.left_since in
    let stands = c.requires.stands tells in
    let area = area_so world moment left_since c.args.self.now c.args.site.now stands c.as_slice.result.now (c.as_slice.ensures ∙ c.in_ok-snapshot.ensures.0) in
    let small = small_so world moment left_since c.args.self.now c.args.site.now stands c.requires.small in
    subst (λ (t : Table). StandsFor world moment left_since t c.write_compact.new.site) (sym c.of.ensures)
    (stands_so world moment left_since c.args.self.now c.args.site.now stands c.in_ok-snapshot.snapshot.opened c.in_ok-snapshot.ensures.1 c.write_compact.new.site
    (c.in_ok-write_compact.ensures.rests tells stands.commits stands.rests area small))

pub returns-clause-bytes : goal.returns-clause-bytes
returns-clause-bytes g c = λ tells.
    let world = g.S.Site.world in
    let moment = g.S.Site.moment in
    let left_since = g.S.Site.left_since in
    let stands = c.requires.stands tells in
    let area = area_so world moment left_since c.args.self.now c.args.site.now stands c.as_slice.result.now (c.as_slice.ensures ∙ c.in_ok-snapshot.ensures.0) in
    let small = small_so world moment left_since c.args.self.now c.args.site.now stands c.requires.small in
    bytes_so world moment left_since c.args.self.now c.args.site.now stands (big_bytes 8 (length (world c.args.site.now).store)) (world c.write_compact.new.site).store
    (c.in_ok-write_compact.ensures.store tells stands.commits stands.rests area small)
