use Rattle.tup_ends.proofs.Staying.{board_stays}
use Rattle.tup_ends.proofs.sources.boards_leave_sources.Goals as goal

pub returns : goal.returns
returns g c = λ next board old tells sound prepared.
    let site_laws = g.met.S.Site in
    board_stays g.S.Site g.R.Runner next board old tells sound prepared (λ t u w within left. site_laws.earlier board.opening.site t u w tells within left)
    (site_laws.present board.opening.site tells)
