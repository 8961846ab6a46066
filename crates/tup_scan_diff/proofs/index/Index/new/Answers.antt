use Rattle.std.proofs.Common.{List, take, subst, ◌∙◌}
use Rattle.std.proofs.lemmas.List.{take_all}
use Rattle.tup_path.specs.Name.{Names}
use Rattle.tup_stamp.specs.declared.Stamp.{Stamp}
use Rattle.tup_graph.specs.Graph.{GraphState, is_owned}
use Rattle.tup_scan_diff.specs.Index.{IsAddedIf, IsIndexOf, IsSourceAmong}
use Rattle.tup_scan_diff.proofs.Indexed.{closed, no_sources, source_more}
use Rattle.tup_scan_diff.proofs.index.Index.new.Goals as goal

pub loop-path-preserved : goal.loop-path-preserved
loop-path-preserved c =
    let file = c.loop-path-item.result in
    let before = c.loop-path.invariant in
    record {
      index = source_more c.args.nodes.now c.args.files.now c.loop-path.path-index file file c.loop-path.index c.add_source.new.self c.loop-path-test.true c.loop-path-item.is before.index
          (subst (λ (g : GraphState). IsAddedIf (is_owned g file.0) file.0 c.loop-path.index c.add_source.new.self) before.owners c.in_ok-add_source.ensures.added);
      owners = c.in_ok-add_source.ensures.same ∙ before.owners;
      known = c.in_ok-add_source.ensures.known;
    }

pub loop-path-init : goal.loop-path-init
loop-path-init c = record { index = no_sources c.args.nodes.now c.empty-index.result c.empty-index.ensures.index; owners = c.owners-owners.ensures; known = c.empty-index.ensures.known }

pub add_source-requires-clause-closed : goal.add_source-requires-clause-closed
add_source-requires-clause-closed c = closed (IsSourceAmong c.args.nodes.now (take c.loop-path.path-index c.args.files.now)) c.loop-path.index c.loop-path.invariant.index

pub add_source-requires-clause-known : goal.add_source-requires-clause-known
add_source-requires-clause-known c = c.loop-path.invariant.known

pub returns-clause-index : goal.returns-clause-index
returns-clause-index c =
    subst (λ (files : List (Names × Stamp)). IsIndexOf (IsSourceAmong c.args.nodes.now files) c.loop-path.index) (take_all c.loop-path.path-index c.args.files.now c.loop-path-test.false) c.loop-path.invariant.index
