use Rattle.tup_law_graph.proofs.Edited.{site_more}
use Rattle.tup_law_graph.proofs.edits.more_is_kept.Goals as goal

pub returns : goal.returns
returns g c = λ next language known more first since also kept. site_more next language known more also first (g.S.Site.left_since c.args.site.now since) kept
