use Rattle.tup_law_board.proofs.Sites.{kept_lost}
use Rattle.tup_law_board.proofs.laws.lost_boards_leave_kept.Goals as goal

pub returns : goal.returns
returns g c = λ language board commit tells told sound lost is_graph held kept.
    let site_laws = g.met.S.Site in
    kept_lost g.S.Site g.R.Runner board sound tells told language kept is_graph held (λ t u w within left. site_laws.earlier board.opening.site t u w tells within left)
    (site_laws.present board.opening.site tells) (λ t u w within left. site_laws.earlier board.site t u w tells within left) (site_laws.present board.site tells) commit lost
