use Rattle.std.proofs.Common.{None, Some, subst}
use Rattle.std.proofs.lemmas.Result.{on_ok_weaker}
use Rattle.tup_path.specs.Name.{Names}
use Rattle.tup_graph.specs.Graph.{source}
use Rattle.tup_scan_diff.specs.Homes.{IsOtherHome}
use Rattle.tup_scan_diff.specs.Present.{graph_of}
use Rattle.tup_scan_diff.proofs.Making.{no_outputs, outputs_nowhere, outputs_there}
use Rattle.tup_scan_diff.proofs.present.Present.add_outputs.Goals as goal

pub returns-in_default-clause-names : goal.returns-in_default-clause-names
returns-in_default-clause-names c =
    let sources = source (graph_of c.args.self.now) in
    let none = subst (IsOtherHome sources c.args.reader.now c.in_ok-clone.field-0) c.in_default.is c.in_ok-home.ensures.home in
    no_outputs c.args.self.now c.args.reader.now c.args.dir.now c.args.names.now (subst (λ (d : Names). IsOtherHome sources c.args.reader.now d None) c.in_ok-clone.ensures.cases none)

pub returns-in-Some-reading-clause-names : goal.returns-in-Some-reading-clause-names
returns-in-Some-reading-clause-names c =
    let sources = source (graph_of c.args.self.now) in
    let of_copy = subst (IsOtherHome sources c.args.reader.now c.in_ok-clone.field-0) c.in-Some.is c.in_ok-home.ensures.home in
    let other = subst (λ (d : Names). IsOtherHome sources c.args.reader.now d (Some c.in-Some.home)) c.in_ok-clone.ensures.cases of_copy in
    on_ok_weaker c.add_drafted.result
    (outputs_there c.args.self.now c.args.reader.now c.args.dir.now c.in-Some.home other.0 other.1 c.in-Some-reading.reading.now c.as_slice.result.now c.args.names.now c.add_drafted.new.names c.in-Some-reading.ensures c.as_slice.ensures)
    c.add_drafted.ensures.names

pub returns-clause-names : goal.returns-clause-names
returns-clause-names c =
    let sources = source (graph_of c.args.self.now) in
    let of_copy = subst (IsOtherHome sources c.args.reader.now c.in_ok-clone.field-0) c.in-Some.is c.in_ok-home.ensures.home in
    let other = subst (λ (d : Names). IsOtherHome sources c.args.reader.now d (Some c.in-Some.home)) c.in_ok-clone.ensures.cases of_copy in
    outputs_nowhere c.args.self.now c.args.reader.now c.args.dir.now c.in-Some.home other.0 other.1 c.args.names.now c.in-None.ensures
