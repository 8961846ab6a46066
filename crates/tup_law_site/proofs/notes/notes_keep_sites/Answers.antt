use Rattle.tup_law_site.proofs.Laws.{keeps_scan, keeps_swap}
use Rattle.tup_law_site.proofs.notes.notes_keep_sites.Goals as goal

pub returns-clause-scan : goal.returns-clause-scan
returns-clause-scan g c = λ next language known first since graph new files config tells over knows leaves.
    let site_laws = g.met.S.Site in
    keeps_scan g.S.Site tells site_laws.earlier site_laws.present next language known first since graph c.args.site.now new over files config knows leaves

pub returns-clause-swap : goal.returns-clause-swap
returns-clause-swap g c = λ next language known first since graph new fresh gone rules tells over fits seen owned_still leaves.
    let site_laws = g.met.S.Site in
    keeps_swap g.S.Site tells site_laws.earlier site_laws.present next language known first since graph c.args.site.now new over fresh gone rules fits seen owned_still leaves
