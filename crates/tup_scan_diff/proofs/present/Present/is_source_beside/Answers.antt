use Rattle.std.proofs.Common.{◌∙◌, ap, sym, subst}
use Rattle.std.specs.Prelude.{Decides, is_some}
use Rattle.tup_path.specs.Name.{Names}
use Rattle.tup_graph.specs.Answers.{IsSource}
use Rattle.tup_graph.specs.Graph.{source}
use Rattle.tup_scan_diff.specs.Present.{graph_of}
use Rattle.tup_scan_diff.proofs.Beside.{source_beside}
use Rattle.tup_scan_diff.proofs.present.Present.is_source_beside.Goals as goal

pub returns-then-not-are_few : goal.returns-then-not-are_few
returns-then-not-are_few c = (
  λ e. sym (ap is_some c.source.ensures) ∙ sym c.is_some.ensures ∙ e,
  λ s. c.is_some.ensures ∙ ap is_some c.source.ensures ∙ s,
)

pub returns : goal.returns
returns c =
    subst (λ (path : Names). Decides c.has_name.result (IsSource (source (graph_of c.args.self.now)) path)) (sym c.requires.parts)
    (source_beside c.args.self.now.index (IsSource (source (graph_of c.args.self.now))) c.args.reader.now c.args.name.now c.args.beside.now c.has_name.result (c.requires.present.1.index.names c.args.reader.now) c.requires.beside c.has_name.ensures)
