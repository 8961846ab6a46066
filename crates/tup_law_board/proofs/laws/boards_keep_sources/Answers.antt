use Rattle.tup_law_board.proofs.Sites.{stays_beside}
use Rattle.tup_law_board.proofs.laws.boards_keep_sources.Goals as goal

pub returns : goal.returns
returns g c = λ next language known board w graph tells sound is_graph kept since reads.
    let site_laws = g.met.S.Site in
    stays_beside g.S.Site g.R.Runner board sound tells next language known kept is_graph (λ t u w within left. site_laws.earlier board.opening.site t u w tells within left)
    (site_laws.present board.opening.site tells) w since graph reads
