use Rattle.tup_graph.specs.Transactions.{begun, finished, with_doomed, with_flagged, with_forgotten}
use Rattle.tup_law_site.proofs.Following.{begin_follows, doom_follows, finish_follows, flag_follows, forget_follows}
use Rattle.tup_law_site.proofs.Laws.{keeps_either, kept_before}
use Rattle.tup_law_site.proofs.calls.calls_keep_sites.Goals as goal

pub returns-clause-begin : goal.returns-clause-begin
returns-clause-begin g c = λ next language known first since graph new number rule tells over here flagged leaves.
    let site_laws = g.met.S.Site in
    keeps_either g.S.Site tells site_laws.earlier site_laws.present next language known first since graph c.args.site.now new over (begun graph.nodes number)
    (begin_follows next language known first _ graph.nodes (kept_before g.S.Site tells site_laws.earlier site_laws.present next language known first since graph c.args.site.now new over) number rule here flagged) leaves

pub returns-clause-finish : goal.returns-clause-finish
returns-clause-finish g c = λ next language known first since graph new number rule run tells over ends stand leaves.
    let site_laws = g.met.S.Site in
    keeps_either g.S.Site tells site_laws.earlier site_laws.present next language known first since graph c.args.site.now new over (finished graph.nodes number run)
    (finish_follows next language known first _ graph.nodes (kept_before g.S.Site tells site_laws.earlier site_laws.present next language known first since graph c.args.site.now new over) number rule run ends stand) leaves

pub returns-clause-doom : goal.returns-clause-doom
returns-clause-doom g c = λ next language known first since graph new paths tells over unmade leaves.
    let site_laws = g.met.S.Site in
    keeps_either g.S.Site tells site_laws.earlier site_laws.present next language known first since graph c.args.site.now new over (with_doomed graph.nodes paths)
    (doom_follows next language known first _ graph.nodes (kept_before g.S.Site tells site_laws.earlier site_laws.present next language known first since graph c.args.site.now new over) paths unmade) leaves

pub returns-clause-forget : goal.returns-clause-forget
returns-clause-forget g c = λ next language known first since graph new paths tells over unmade unread gone leaves.
    let site_laws = g.met.S.Site in
    keeps_either g.S.Site tells site_laws.earlier site_laws.present next language known first since graph c.args.site.now new over (with_forgotten graph.nodes paths)
    (forget_follows next language known first _ graph.nodes (kept_before g.S.Site tells site_laws.earlier site_laws.present next language known first since graph c.args.site.now new over) paths unmade unread gone) leaves

pub returns-clause-flag : goal.returns-clause-flag
returns-clause-flag g c = λ next language known first since graph new rules tells over closed leaves.
    let site_laws = g.met.S.Site in
    keeps_either g.S.Site tells site_laws.earlier site_laws.present next language known first since graph c.args.site.now new over (with_flagged graph.nodes rules)
    (flag_follows next language known first _ graph.nodes (kept_before g.S.Site tells site_laws.earlier site_laws.present next language known first since graph c.args.site.now new over) rules closed) leaves
