use Rattle.std.proofs.Common.{length, sym, subst}
use Rattle.tup_site.specs.Crash.{WriteStep}
use Rattle.tup_site.specs.World.{World}
use Rattle.tup_table.proofs.Torn.{whole_torn}
use Rattle.tup_table.proofs.writing.write_through.Goals as goal

pub returns-in_err-db_write-clause-step : goal.returns-in_err-db_write-clause-step
returns-in_err-db_write-clause-step g c = λ tells. record { torn = c.in_err-db_write.ensures.torn tells; tree = c.db_write.ensures.tree tells }

pub returns-in_err-db_sync-clause-step : goal.returns-in_err-db_sync-clause-step
returns-in_err-db_sync-clause-step g c = λ tells.
    let was = g.S.Site.world c.args.site.now in
    subst (λ (w : World). WriteStep c.args.at (length c.args.bytes.now) was w) (sym (c.db_sync.ensures.same tells))
    (record {
      torn = whole_torn c.args.at was.store c.args.bytes.now (g.S.Site.world c.db_write.new.self).store (c.requires tells) (c.in_ok-db_write.ensures.written tells);
      tree = c.db_write.ensures.tree tells;
    })

pub returns-clause-step : goal.returns-clause-step
returns-clause-step g c = λ tells.
    let was = g.S.Site.world c.args.site.now in
    subst (λ (w : World). WriteStep c.args.at (length c.args.bytes.now) was w) (sym (c.db_sync.ensures.same tells))
    (record {
      torn = whole_torn c.args.at was.store c.args.bytes.now (g.S.Site.world c.db_write.new.self).store (c.requires tells) (c.in_ok-db_write.ensures.written tells);
      tree = c.db_write.ensures.tree tells;
    })
