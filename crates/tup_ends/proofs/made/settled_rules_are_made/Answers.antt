use Rattle.tup_ends.proofs.Making.{is_made}
use Rattle.tup_ends.proofs.made.settled_rules_are_made.Goals as goal

pub returns : goal.returns
returns g c = λ board first since number rule tells told sound prepared here reached gone.
    let site_laws = g.met.S.Site in
    is_made g.S.Site g.R.Runner board sound tells told first since prepared (λ t u w within left. site_laws.earlier board.opening.site t u w tells within left)
    (site_laws.present board.opening.site tells) (site_laws.knows_tree board.opening.site tells) (site_laws.is_known board.site tells) (site_laws.knows_tree board.site tells) number rule here reached gone
