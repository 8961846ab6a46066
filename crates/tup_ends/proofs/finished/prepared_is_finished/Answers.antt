use Rattle.tup_ends.proofs.Done.{at_once}
use Rattle.tup_ends.proofs.finished.prepared_is_finished.Goals as goal

pub returns : goal.returns
returns g c = λ next first since graph tells prepared none.
    let site_laws = g.met.S.Site in
    at_once g.S.Site next first since graph c.args.site.now prepared (λ t u w within left. site_laws.earlier c.args.site.now t u w tells within left) (site_laws.present c.args.site.now tells)
    (site_laws.is_known c.args.site.now tells) (site_laws.knows_tree c.args.site.now tells) none
