use Rattle.std.proofs.Common.{◌∷◌, [], List, map, sym, subst, ◌∙◌}
use Rattle.std.specs.FinMap as finite
use Rattle.std.specs.Map.Iter.{deref_pair}
use Rattle.std.proofs.lemmas.List.{map-append}
use Rattle.std.proofs.lemmas.Map.Iter.{iter_end}
use Rattle.tup_path.specs.Name.{Names}
use Rattle.tup_stamp.specs.declared.Stamp.{Stamp}
use Rattle.tup_graph.specs.Graph.{GraphState, is_owned}
use Rattle.tup_scan_diff.specs.Index.{IsAddedIf, IsIndexOf, IsSourceAmong}
use Rattle.tup_scan_diff.proofs.Indexed.{closed, index_of_seen, no_sources, source_pushed}
use Rattle.tup_scan_diff.proofs.index.Index.seen.Goals as goal

pub loop-file-init : goal.loop-file-init
loop-file-init c = record { index = no_sources c.args.nodes.now c.empty-index.result c.empty-index.ensures.index; owners = c.owners-owners.ensures; known = c.empty-index.ensures.known }

pub loop-file-preserved : goal.loop-file-preserved
loop-file-preserved c =
    let nodes = c.args.nodes.now in
    let before = c.loop-file.invariant in
    let path = c.in-Some.file.now in
    record {
      index = subst (λ (l : List (Names × Stamp)). IsIndexOf (IsSourceAmong nodes l) c.add_source.new.self) (sym (map-append deref_pair c.loop-file.yielded ((c.in-Some.file, c.in-Some.field-0-1) ∷ [])))
          (source_pushed nodes (map deref_pair c.loop-file.yielded) (path, c.in-Some.field-0-1.now) c.loop-file.index c.add_source.new.self before.index
          (subst (λ (g : GraphState). IsAddedIf (is_owned g path) path c.loop-file.index c.add_source.new.self) before.owners c.in_ok-add_source.ensures.added));
      owners = c.in_ok-add_source.ensures.same ∙ before.owners;
      known = c.in_ok-add_source.ensures.known;
    }

pub add_source-requires-clause-closed : goal.add_source-requires-clause-closed
add_source-requires-clause-closed c = closed (IsSourceAmong c.args.nodes.now (map deref_pair c.loop-file.yielded)) c.loop-file.index c.loop-file.invariant.index

pub add_source-requires-clause-known : goal.add_source-requires-clause-known
add_source-requires-clause-known c = c.loop-file.invariant.known

pub returns-clause-index : goal.returns-clause-index
returns-clause-index c =
    let nodes = c.args.nodes.now in
    let all = iter_end deref_pair (finite.entries nodes.seen) c.loop-file.yielded c.into_iter-file-iterator.result c.loop-file.file-iterator c.next.new.self c.next.result
    (c.into_iter-file-iterator.ensures.into_iter_gives ∙ c.files-file-items.ensures) c.loop-file.yielded_by c.in-None.is c.next.ensures.steps in
    index_of_seen nodes c.loop-file.index (subst (λ (l : List (Names × Stamp)). IsIndexOf (IsSourceAmong nodes l) c.loop-file.index) all.0 c.loop-file.invariant.index)
