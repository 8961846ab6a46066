use Rattle.tup_law_site.proofs.Changing.{file_remains, file_remains_now}
use Rattle.tup_law_site.proofs.Laws.{before}
use Rattle.tup_law_site.proofs.files.files_keep_sites.Goals as goal

pub returns-clause-images : goal.returns-clause-images
returns-clause-images g c = λ next language known more first since graph new path contents tells also over unsure on.
    let site_laws = g.met.S.Site in
    file_remains g.S.Site next language known more also first since graph c.args.site.now over (before g.S.Site tells site_laws.earlier site_laws.present c.args.site.now) path unsure new contents on

pub returns-clause-now : goal.returns-clause-now
returns-clause-now g c = λ next language known more graph new path contents tells also over unsure on others.
    let site_laws = g.met.S.Site in
    file_remains_now g.S.Site next language known more also graph c.args.site.now new over (before g.S.Site tells site_laws.earlier site_laws.present) (site_laws.present new tells) path unsure contents on others
