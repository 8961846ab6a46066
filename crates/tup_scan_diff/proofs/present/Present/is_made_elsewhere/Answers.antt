use Rattle.std.proofs.Common.{sym, subst}
use Rattle.std.proofs.lemmas.Bool.{true≢false}
use Rattle.tup_graph.specs.Graph.{source}
use Rattle.tup_scan_diff.specs.Homes.{IsOtherHome}
use Rattle.tup_scan_diff.specs.Index.{IsParted}
use Rattle.tup_scan_diff.specs.Present.{graph_of}
use Rattle.tup_scan_diff.proofs.Answered.{elsewhere_decides, none_elsewhere, nothing_elsewhere}
use Rattle.tup_scan_diff.proofs.present.Present.is_made_elsewhere.Goals as goal

pub returns-in_default-clause-made : goal.returns-in_default-clause-made
returns-in_default-clause-made c = (
  λ e. absurd (true≢false (sym e)),
  λ made. absurd (nothing_elsewhere (source (graph_of c.args.self.now)) c.args.self.now.nodes.now.readings c.args.reader.now c.args.path.now (subst (IsParted c.args.path.now) c.in_default.is c.in_ok-dir.ensures.parted) made),
)

pub returns-in_default-2-clause-made : goal.returns-in_default-2-clause-made
returns-in_default-2-clause-made c =
    let sources = source (graph_of c.args.self.now) in (
      λ e. absurd (true≢false (sym e)),
      λ made. absurd (none_elsewhere sources c.args.self.now.nodes.now.readings c.args.reader.now c.args.path.now c.in-Some.dir c.in-Some.field-0-1 (subst (IsParted c.args.path.now) c.in-Some.is c.in_ok-dir.ensures.parted)
          (subst (IsOtherHome sources c.args.reader.now c.in-Some.dir) c.in_default-2.is c.in_ok-home.ensures.home) made),
    )

pub has-requires : goal.has-requires
has-requires c = record { made = c.requires.present.1.made }

pub returns-clause-made : goal.returns-clause-made
returns-clause-made c =
    let sources = source (graph_of c.args.self.now) in
    let other = subst (IsOtherHome sources c.args.reader.now c.in-Some.dir) c.in-Some-2.is c.in_ok-home.ensures.home in
    elsewhere_decides sources c.args.self.now.nodes.now.readings c.args.reader.now c.args.path.now c.in-Some.dir c.in-Some.field-0-1 c.in-Some-2.home
    (subst (IsParted c.args.path.now) c.in-Some.is c.in_ok-dir.ensures.parted) other.0 other.1 c.has.result c.has.ensures
