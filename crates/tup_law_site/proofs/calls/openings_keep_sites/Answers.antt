use Rattle.tup_law_site.proofs.Laws.{before}
use Rattle.tup_law_site.proofs.Opened.{opened_remains}
use Rattle.tup_law_site.proofs.calls.openings_keep_sites.Goals as goal

pub returns : goal.returns
returns g c = λ next language known first since new tells began kept on.
    let site_laws = g.met.S.Site in
    opened_remains g.S.Site next language known first since c.args.site.now new began kept (before g.S.Site tells site_laws.earlier site_laws.present c.args.site.now) on
