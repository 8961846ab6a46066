use Rattle.std.proofs.Common.{◌≡◌, List, Option, ap, ◌∙◌}
use Rattle.std.specs.FinMap as finite
use Rattle.std.proofs.lemmas.Result.{IfOk-weaker}
use Rattle.tup_path.specs.Name.{Names, Content}
use Rattle.tup_graph.specs.Answers.{tup_config}
use Rattle.tup_graph.specs.Graph.{GraphState}
use Rattle.tup_refresh.specs.Outline.{outline_of}
use Rattle.tup_refresh.proofs.Outlining.{has_config, has_paths, outline_rises}
use Rattle.tup_refresh.proofs.outline.outline.Goals as goal

there : (g : GraphState) (top : Names) (config : Option Content) (files : List (Names × Content)) → top ≡ tup_config → files ≡ outline_of g top config (finite.entries g.seen) → files ≡ outline_of g tup_config config (finite.entries g.seen)
there g top config files is are = are ∙ ap (λ (at : Names). outline_of g at config (finite.entries g.seen)) is

pub returns-clause-sorted : goal.returns-clause-sorted
returns-clause-sorted c =
    let g = c.args.nodes.now in
    let config = c.args.config.now in
    IfOk-weaker c.sources_seen.result _ _ (λ files are. outline_rises g config files (there g c.in_ok-top.top config files c.in_ok-top.ensures are)) c.sources_seen.ensures

pub returns-clause-paths : goal.returns-clause-paths
returns-clause-paths c = λ sources sees.
    let g = c.args.nodes.now in
    let config = c.args.config.now in
    IfOk-weaker c.sources_seen.result _ _ (λ files are. has_paths g config files (there g c.in_ok-top.top config files c.in_ok-top.ensures are) sources sees) c.sources_seen.ensures

pub returns-clause-config : goal.returns-clause-config
returns-clause-config c = λ sources sees is.
    let g = c.args.nodes.now in
    let config = c.args.config.now in
    IfOk-weaker c.sources_seen.result _ _ (λ files are. has_config g config files (there g c.in_ok-top.top config files c.in_ok-top.ensures are) sources sees is) c.sources_seen.ensures
