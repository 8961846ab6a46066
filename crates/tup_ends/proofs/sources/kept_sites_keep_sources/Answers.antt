use Rattle.tup_ends.proofs.Staying.{sources_kept}
use Rattle.tup_ends.proofs.sources.kept_sites_keep_sources.Goals as goal

pub returns : goal.returns
returns g c = λ next known old new later kept. sources_kept g.S.Site next known old new later kept
