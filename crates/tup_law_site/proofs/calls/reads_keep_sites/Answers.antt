use Rattle.tup_law_site.proofs.Laws.{keeps_read}
use Rattle.tup_law_site.proofs.calls.reads_keep_sites.Goals as goal

pub returns : goal.returns
returns g c = λ next language known first since new began kept on. keeps_read g.S.Site next language known first since c.args.site.now new began kept on
