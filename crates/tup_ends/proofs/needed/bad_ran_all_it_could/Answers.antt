use Rattle.tup_ends.proofs.Quiet.{names_that_can}
use Rattle.tup_ends.proofs.needed.bad_ran_all_it_could.Goals as goal

pub returns : goal.returns
returns g c = λ board first since ran tells told sound prepared same over going.
    let site_laws = g.met.S.Site in
    names_that_can g.S.Site g.R.Runner board sound tells told first since prepared (λ t u w within left. site_laws.earlier board.opening.site t u w tells within left)
    (site_laws.present board.opening.site tells) (site_laws.knows_tree board.opening.site tells) (site_laws.is_known board.site tells) ran same over going
