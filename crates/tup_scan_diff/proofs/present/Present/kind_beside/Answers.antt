use Rattle.std.proofs.Common.{◌∙◌, inl, refl, sym}
use Rattle.std.proofs.lemmas.Bool.{true≢false}
use Rattle.tup_graph.specs.Graph.{source}
use Rattle.tup_graph.proofs.Homes.{own_home}
use Rattle.tup_scan_diff.specs.Present.{graph_of}
use Rattle.tup_scan_diff.proofs.Answered.{not_elsewhere}
use Rattle.tup_scan_diff.proofs.present.Present.kind_beside.Goals as goal

pub returns-then-is_source_beside : goal.returns-then-is_source_beside
returns-then-is_source_beside c = inl (c.is_source_beside.ensures.0 c.if-is_source_beside.true)

pub is_folder_beside-requires-clause-inside : goal.is_folder_beside-requires-clause-inside
is_folder_beside-requires-clause-inside c = (c.args.name.now, c.requires.parts)

pub returns-then-is_folder_beside : goal.returns-then-is_folder_beside
returns-then-is_folder_beside c = (
  λ s. true≢false (sym (c.is_source_beside.ensures.1 s) ∙ c.if-is_source_beside.false),
  (c.requires.present.1.index.folders c.args.path.now).0 (sym c.is_folder_beside.ensures ∙ c.if-is_folder_beside.true),
)

pub returns : goal.returns
returns c = (
  λ s. true≢false (sym (c.is_source_beside.ensures.1 s) ∙ c.if-is_source_beside.false),
  λ below. true≢false (sym ((c.requires.present.1.index.folders c.args.path.now).1 below) ∙ sym c.is_folder_beside.ensures ∙ c.if-is_folder_beside.false),
  not_elsewhere (source (graph_of c.args.self.now)) c.args.self.now.nodes.now.readings c.args.reader.now c.args.path.now c.args.reader.now c.args.name.now c.requires.parts c.args.reader.now
      (own_home (source (graph_of c.args.self.now)) c.args.reader.now ((c.requires.present.1.index.tupfiles c.args.reader.now).0 c.requires.tupfile)) refl,
)
