use Rattle.std.proofs.Common.{◌∙◌, ap}
use Rattle.tup_site.specs.World.{World}
use Rattle.tup_table.proofs.Going.{still_durable}
use Rattle.tup_table.proofs.writing.durable_bytes.Goals as goal

pub returns-clause-durable : goal.returns-clause-durable
returns-clause-durable g c = λ tells.
    let site_laws = g.met.S.Site in
    let moment = g.S.Site.moment in
    let left_since = g.S.Site.left_since in
    let synced = c.db_sync.new.self in
    let measured = c.db_len.new.self in
    let was = ap (λ (w : World). w.store) (c.db_len.ensures.same tells ∙ c.db_sync.ensures.same tells) in
    let after_len = still_durable moment left_since synced measured (g.S.Site.world c.args.site.now) (g.S.Site.world measured) (λ t u w le left. site_laws.earlier measured t u w tells le left) (c.db_len.ensures.crash tells) was (c.in_ok-db_sync.ensures.durable tells) in
    still_durable moment left_since measured c.db_read.new.self (g.S.Site.world measured) (g.S.Site.world c.db_read.new.self) (λ t u w le left. site_laws.earlier c.db_read.new.self t u w tells le left) (c.db_read.ensures.crash tells)
    (ap (λ (w : World). w.store) (c.db_read.ensures.same tells)) after_len
