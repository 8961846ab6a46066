use Rattle.std.proofs.Common.{List, [], ◌∷◌, ◌++◌, map, ap, sym, ◌∙◌}
use Rattle.std.specs.FinMap as finite
use Rattle.std.specs.Map.Iter.{deref_pair}
use Rattle.std.proofs.lemmas.List.{map-append}
use Rattle.std.proofs.lemmas.Map.Iter.{iter_end}
use Rattle.tup_path.specs.Name.{Names, Content}
use Rattle.tup_graph.specs.Graph.{GraphState}
use Rattle.tup_refresh.specs.Outline.{outline_of, source_in}
use Rattle.tup_refresh.proofs.Outlining.{outline_push}
use Rattle.tup_refresh.proofs.outline.sources_seen.Goals as goal

pub loop-path-init : goal.loop-path-init
loop-path-init c = record { files = c.new-files.ensures; owners = c.owners-owners.ensures }

pub loop-path-preserved : goal.loop-path-preserved
loop-path-preserved c =
    let g = c.args.nodes.now in
    let top = c.args.top.now in
    let config = c.args.config.now in
    let path = c.in-Some.path.now in
    let before = c.loop-path.invariant in
    record {
      files =
          c.in_ok-push_source.ensures.files ∙ ap (λ (h : GraphState). c.loop-path.files ++ source_in h top config path) before.owners
          ∙ ap (λ (files : List (Names × Content)). files ++ source_in g top config path) before.files
          ∙ sym (outline_push g top config (map deref_pair c.loop-path.yielded) path c.in-Some.field-0-1.now)
          ∙ ap (outline_of g top config) (sym (map-append deref_pair c.loop-path.yielded ((c.in-Some.path, c.in-Some.field-0-1) ∷ [])));
      owners = c.in_ok-push_source.ensures.same ∙ before.owners;
    }

pub returns : goal.returns
returns c =
    let g = c.args.nodes.now in
    let all = iter_end deref_pair (finite.entries g.seen) c.loop-path.yielded c.into_iter-path-iterator.result c.loop-path.path-iterator c.next.new.self c.next.result
    (c.into_iter-path-iterator.ensures.into_iter_gives ∙ c.files-path-items.ensures) c.loop-path.yielded_by c.in-None.is c.next.ensures.steps in
    c.loop-path.invariant.files ∙ ap (outline_of g c.args.top.now c.args.config.now) all.0
