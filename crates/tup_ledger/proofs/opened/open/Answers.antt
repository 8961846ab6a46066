use Rattle.tup_ledger.proofs.Guarding.{opening_keeps}
use Rattle.tup_ledger.proofs.Listing.{opened_guards, opened_lists, still_lists}
use Rattle.tup_ledger.proofs.opened.open.Goals as goal

pub returns-clause-lists : goal.returns-clause-lists
returns-clause-lists g c = λ tells.
    let site_laws = g.met.S.Site in
    let new = c.open.new.site in
    opened_lists g.S.Site.world g.S.Site.moment g.S.Site.left_since new (site_laws.present new tells) c.open.result c.open.ensures.graph (c.open.ensures.stands tells)

pub returns-clause-still : goal.returns-clause-still
returns-clause-still g c = λ tells. still_lists (g.S.Site.world c.args.site.now) (g.S.Site.world c.open.new.site) (c.open.ensures.keeps tells)

pub returns-clause-images : goal.returns-clause-images
returns-clause-images g c = λ tells kept safe. opening_keeps g.S.Site.world g.S.Site.moment g.S.Site.left_since kept c.args.site.now c.open.new.site safe (c.open.ensures.crash tells)

pub returns-clause-guards : goal.returns-clause-guards
returns-clause-guards g c = λ tells kept safe.
    let site_laws = g.met.S.Site in
    let old = c.args.site.now in
    let new = c.open.new.site in
    opened_guards g.S.Site.world g.S.Site.moment g.S.Site.left_since new (site_laws.present new tells) kept old c.open.result (λ t u w le left. site_laws.earlier new t u w tells le left)
    (opening_keeps g.S.Site.world g.S.Site.moment g.S.Site.left_since kept old new safe (c.open.ensures.crash tells)) c.open.ensures.graph (c.open.ensures.stands tells)
