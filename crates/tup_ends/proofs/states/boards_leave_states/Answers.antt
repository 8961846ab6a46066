use Rattle.tup_ends.proofs.Stated.{board_stated}
use Rattle.tup_ends.proofs.states.boards_leave_states.Goals as goal

pub returns : goal.returns
returns g c = λ board first since tells told sound prepared once keeps.
    let site_laws = g.met.S.Site in
    board_stated g.S.Site g.R.Runner board sound tells told first since prepared (λ t u w within left. site_laws.earlier board.opening.site t u w tells within left)
    (site_laws.present board.opening.site tells) (site_laws.knows_tree board.opening.site tells) (site_laws.is_known board.site tells) once keeps
