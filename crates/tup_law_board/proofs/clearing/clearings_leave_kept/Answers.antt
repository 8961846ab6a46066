use Rattle.tup_law_site.proofs.Laws.{before}
use Rattle.tup_law_board.proofs.Leaving.{cleared_now}
use Rattle.tup_law_board.proofs.clearing.clearings_leave_kept.Goals as goal

pub returns : goal.returns
returns g c = λ next language known graph now new tells over unread others spares leaves.
    let site_laws = g.met.S.Site in
    cleared_now g.S.Site next language known graph now c.args.site.now new over (before g.S.Site tells site_laws.earlier site_laws.present) (λ s. site_laws.present s tells) unread others spares leaves
