use Rattle.tup_ends.proofs.Blame.{is_bad_rule}
use Rattle.tup_ends.proofs.blamed.bad_rules_are_bad.Goals as goal

pub returns : goal.returns
returns g c = λ board first since at ran name verdict tells told sound prepared same bad named.
    let site_laws = g.met.S.Site in
    is_bad_rule g.S.Site g.R.Runner board sound tells told first since prepared (λ t u w within left. site_laws.earlier board.opening.site t u w tells within left)
    (site_laws.present board.opening.site tells) (site_laws.knows_tree board.opening.site tells) (site_laws.is_known board.site tells) ran same at verdict name bad named
