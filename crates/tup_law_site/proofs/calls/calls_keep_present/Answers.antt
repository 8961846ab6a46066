use Rattle.tup_law_site.proofs.Laws.{before}
use Rattle.tup_law_site.proofs.Remaining.{remains_now}
use Rattle.tup_law_site.proofs.calls.calls_keep_present.Goals as goal

pub returns : goal.returns
returns g c = λ next language known new tells later stays kept.
    let site_laws = g.met.S.Site in
    remains_now g.S.Site next language known c.args.site.now new (site_laws.present new tells) (before g.S.Site tells site_laws.earlier site_laws.present new) later stays kept
