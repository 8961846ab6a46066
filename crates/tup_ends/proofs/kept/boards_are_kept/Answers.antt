use Rattle.tup_ends.proofs.Lasting.{kept_always}
use Rattle.tup_ends.proofs.kept.boards_are_kept.Goals as goal

pub returns : goal.returns
returns g c = λ board first since tells told sound graph_now prepared once.
    let site_laws = g.met.S.Site in
    kept_always g.S.Site g.R.Runner board sound tells told first since prepared once (λ t u w within left. site_laws.earlier board.opening.site t u w tells within left)
    (site_laws.present board.opening.site tells) graph_now (λ t u w within left. site_laws.earlier board.site t u w tells within left) (site_laws.present board.site tells)
