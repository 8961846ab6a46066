use Rattle.tup_ends.proofs.Done.{at_end}
use Rattle.tup_ends.proofs.finished.done_is_finished.Goals as goal

pub returns : goal.returns
returns g c = λ board first since tells told sound graph_now prepared once over.
    let site_laws = g.met.S.Site in
    at_end g.S.Site g.R.Runner board sound tells told first since prepared once over graph_now
    (λ t u w within left. site_laws.earlier board.opening.site t u w tells within left) (site_laws.present board.opening.site tells)
    (λ t u w within left. site_laws.earlier board.site t u w tells within left) (site_laws.present board.site tells)
    (site_laws.is_known board.site tells) (site_laws.knows_tree board.site tells)
