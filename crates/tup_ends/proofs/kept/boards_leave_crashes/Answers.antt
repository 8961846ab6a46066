use Rattle.tup_ends.proofs.Lasting.{crashes_left}
use Rattle.tup_ends.proofs.kept.boards_leave_crashes.Goals as goal

pub returns : goal.returns
returns g c = λ board old tells told sound prepared once owns.
    let site_laws = g.met.S.Site in
    crashes_left g.S.Site g.R.Runner board sound tells told old prepared once (λ t u w within left. site_laws.earlier board.opening.site t u w tells within left)
    (site_laws.present board.opening.site tells) owns
