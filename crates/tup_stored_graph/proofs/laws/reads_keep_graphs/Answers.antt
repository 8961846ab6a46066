use Rattle.std.proofs.Common.{ap}
use Rattle.tup_site.specs.Crash.{NoStep}
use Rattle.tup_site.specs.World.{World}
use Rattle.tup_table.proofs.Stands.{stands_on}
use Rattle.tup_stored_graph.proofs.laws.reads_keep_graphs.Goals as goal

pub returns : goal.returns
returns g c = λ graph new tells same on stands.
    let site_laws = g.met.S.Site in
    stands_on g.S.Site.world g.S.Site.moment g.S.Site.left_since graph.table c.args.site.now new NoStep (λ v w none. absurd none)
    (λ t u w le left. site_laws.earlier new t u w tells le left) on (ap (λ (w : World). w.store) same) stands
