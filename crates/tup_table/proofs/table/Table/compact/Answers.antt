use Rattle.std.proofs.Common.{arith}
use Rattle.std.proofs.lemmas.Result.{err_from_is_err_and}
use Rattle.tup_table.specs.Table.{entries_in}
use Rattle.tup_table.proofs.Commits.{compacting_refused}
use Rattle.tup_table.proofs.Compacted.{compacting_now}
use Rattle.tup_table.proofs.table.Table.compact.Goals as goal

pub compacted-requires-clause-small : goal.compacted-requires-clause-small
compacted-requires-clause-small g c = omega (arith, c.live.ensures, c.if-live-gt-MAX_LIVE.false)

pub returns-in_err-table-clause-leaves : goal.returns-in_err-table-clause-leaves
returns-in_err-table-clause-leaves g c =
    let p = err_from_is_err_and c.from_residual.result c.from_residual.ensures.1 in
    rw (p.1, p.2) (compacting_refused c.args.self.now c.compacted.new.self c.args.site.now c.compacted.new.site c.in_err-table.field-0.0 c.in_err-table.ensures.fails)

pub returns-in_err-table-clause-keeps : goal.returns-in_err-table-clause-keeps
returns-in_err-table-clause-keeps g c = λ tells.
    let site_laws = g.met.S.Site in
    let new = c.compacted.new.site in
    compacting_now g.S.Site.world g.S.Site.moment g.S.Site.left_since c.args.self.now c.args.site.now (c.requires.stands tells) (entries_in c.args.self.now) new (c.compacted.ensures.tree tells) (λ t u w le left. site_laws.earlier new t u w tells le left)
    (site_laws.present new tells) (c.compacted.ensures.crash tells)

pub returns-clause-keeps : goal.returns-clause-keeps
returns-clause-keeps g c = λ tells.
    let site_laws = g.met.S.Site in
    let new = c.compacted.new.site in
    compacting_now g.S.Site.world g.S.Site.moment g.S.Site.left_since c.args.self.now c.args.site.now (c.requires.stands tells) (entries_in c.args.self.now) new (c.compacted.ensures.tree tells) (λ t u w le left. site_laws.earlier new t u w tells le left)
    (site_laws.present new tells) (c.compacted.ensures.crash tells)
