use Rattle.std.proofs.Common.{Option, sym, subst, ◌∙◌}
use Rattle.std.proofs.lemmas.Bool.{true≢false}
use Rattle.tup_path.specs.Name.{Names}
use Rattle.tup_path.proofs.Same.{same_path-decides}
use Rattle.tup_graph.specs.Graph.{source}
use Rattle.tup_scan_diff.specs.Homes.{IsHomeOf}
use Rattle.tup_scan_diff.specs.Present.{graph_of}
use Rattle.tup_scan_diff.proofs.Homing.{own_is_no_other}
use Rattle.tup_scan_diff.proofs.present.Present.other_home.Goals as goal

pub returns-in_default-clause-home : goal.returns-in_default-clause-home
returns-in_default-clause-home c =
    let sources = source (graph_of c.args.self.now) in
    let none = subst (IsHomeOf sources c.args.dir) c.in_default.is (c.in_ok-home.ensures.home sources c.requires.present.1.index.tupfiles) in
    λ home at apart. none home at

pub returns-then-eq-clause-home : goal.returns-then-eq-clause-home
returns-then-eq-clause-home c =
    let sources = source (graph_of c.args.self.now) in
    own_is_no_other sources c.args.reader.now c.args.dir c.in-Some.home (subst (IsHomeOf sources c.args.dir) c.in-Some.is (c.in_ok-home.ensures.home sources c.requires.present.1.index.tupfiles))
    ((same_path-decides c.in-Some.home c.args.reader.now).0 (sym c.eq.ensures ∙ c.if-eq.true))

pub returns-clause-home : goal.returns-clause-home
returns-clause-home c =
    let sources = source (graph_of c.args.self.now) in (
      subst (IsHomeOf sources c.args.dir) c.in-Some.is (c.in_ok-home.ensures.home sources c.requires.present.1.index.tupfiles),
      λ e. true≢false (sym ((same_path-decides c.in-Some.home c.args.reader.now).1 e) ∙ sym c.eq.ensures ∙ c.if-eq.false),
    )
