use Rattle.tup_stale.specs.Unmade.{unmade}
use Rattle.tup_law_site.proofs.Laws.{before}
use Rattle.tup_law_board.proofs.Cleared.{cleared_remains}
use Rattle.tup_law_board.proofs.Unmade.{unmade_at}
use Rattle.tup_law_board.proofs.clearing.clearings_keep_sites.Goals as goal

pub returns : goal.returns
returns g c = λ next language known first since graph new tells over unread leaves.
    let site_laws = g.met.S.Site in
    cleared_remains g.S.Site next language known first since graph c.args.site.now over
    (before g.S.Site tells site_laws.earlier site_laws.present c.args.site.now) (site_laws.present c.args.site.now tells)
    (unmade graph.nodes) (unmade_at graph.nodes) unread new leaves.on
