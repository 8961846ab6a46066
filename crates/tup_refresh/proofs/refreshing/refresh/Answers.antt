use Rattle.std.proofs.Common.{List, sym, ◌∙◌, subst}
use Rattle.std.specs.Map.{keys_of}
use Rattle.tup_path.specs.Name.{Names, Content}
use Rattle.tup_graph.specs.Answers.{tup_config}
use Rattle.tup_ledger.specs.Sources.{sources_of}
use Rattle.tup_refresh.specs.Part.{IsUnfetched}
use Rattle.tup_refresh.proofs.Outlining.{files_of, none_fetched}
use Rattle.tup_refresh.proofs.refreshing.refresh.Goals as goal

pub refresh_outlined-requires : goal.refresh_outlined-requires
refresh_outlined-requires g c = record { sorted = c.in_ok-files.ensures.sorted }

pub returns-clause-refreshed : goal.returns-clause-refreshed
returns-clause-refreshed g c = λ tells sees config trues.
    let a = c.args in
    let tree = (g.S.Site.world a.site.now).tree in
    let sources = sources_of a.nodes.now tree in
    let paths = c.in_ok-files.ensures.paths sources sees in
    let files = files_of a.nodes.now tree in
    c.refresh_outlined.ensures.refreshed tells sources
    (record { paths = paths; stamps = sees })
    (c.in_ok-files.ensures.config sources sees (λ some. config ∙ sym (files tup_config some)))
    (none_fetched sources c.in_ok-files.files c.in_ok-fetched.fetched c.in_ok-files.ensures.sorted paths
    (subst (λ (l : List (Names × Content)). IsUnfetched (keys_of l) c.in_ok-fetched.fetched) c.as_slice.ensures c.in_ok-fetched.ensures))
    files trues
