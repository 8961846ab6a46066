use Rattle.tup_law_graph.proofs.Edited.{site_edited}
use Rattle.tup_law_graph.proofs.edits.edits_keep_sites.Goals as goal

pub returns : goal.returns
returns g c = λ next language known more since path content also kept alike. site_edited next language known more also _ _ path content kept alike
