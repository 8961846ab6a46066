use Rattle.std.proofs.Common.{◌≡◌, ◌∙◌, ◌++◌, List, ℕ, ap, sym, subst}
use Rattle.std.specs.Prelude.{Contains, ◌↔◌}
use Rattle.std.specs.List.Sorted.{IsStrictlySortedBy}
use Rattle.std.specs.FinMap as finite
use Rattle.std.specs.Ordering.{nat_cmp}
use Rattle.tup_path.specs.Name.{Names}
use Rattle.tup_path.specs.Order.{by_names}
use Rattle.tup_stamp.specs.declared.Stamp.{Stamp}
use Rattle.tup_graph.specs.Above.{IsAbove}
use Rattle.tup_graph.specs.declared.edit.Edit.{Edit}
use Rattle.tup_graph.specs.Graph.{GraphState}
use Rattle.tup_closure.specs.Steps.{HasStepped, HasSteppedAtMost}
use Rattle.tup_closure.proofs.Stepping.{at_most, if_err, none_stepped}
use Rattle.tup_scan_diff.specs.Edits.{BeginsScan, create_edits, modify_edits}
use Rattle.tup_scan_diff.specs.Present.{graph_of, seeing, stamps_in}
use Rattle.tup_scan_diff.specs.Touched.{IsRootIn, IsScanRoot}
use Rattle.tup_scan_diff.proofs.Scanned.{noted}
use Rattle.tup_scan_diff.proofs.scan.note_scan.Goals as goal

-- the graph, and that of what was found, are the graph and the one that sees it
sees : (graph nodes : GraphState) (files : List (Names × Stamp)) (stamps : finite.FinMap by_names Stamp) → nodes ≡ graph → stamps ≡ finite.from_entries files
    → ◌≡◌ {A = GraphState × GraphState} (nodes, seeing nodes stamps) (graph, seeing graph (finite.from_entries files))
sees graph nodes files stamps same are = λ i. (same i, seeing (same i) (are i))

pub to_run-requires-clause-same : goal.to_run-requires-clause-same
to_run-requires-clause-same g c = sym (c.in_ok-present.ensures.nodes ∙ c.nodes.ensures)

pub to_run-requires-clause-seen : goal.to_run-requires-clause-seen
to_run-requires-clause-seen g c = c.as_slice.ensures ∙ c.in_ok-edits.ensures.ok

pub returns-clause-edits : goal.returns-clause-edits
returns-clause-edits g c =
    let present = c.in_ok-present.present in
    let numbers = c.as_slice-2.result.now in
    noted c.args.graph.now c.args.seen.now.files c.args.seen.now.config present c.in_ok-dirs.dirs numbers (c.in_ok-present.ensures.nodes ∙ c.nodes.ensures) c.in_ok-present.ensures.stamps
    (c.in_ok-dirs.ensures.stale c.args.seen.now.config c.in_ok-present.ensures.present) c.in_ok-dirs.ensures.ordered
    (subst (λ (l : List ℕ). (n : ℕ) → Contains l n ↔ IsAbove (graph_of present) (IsRootIn present) n) (sym c.as_slice-2.ensures) c.in_ok-numbers.ensures.above)
    (subst (IsStrictlySortedBy nat_cmp) (sym c.as_slice-2.ensures) c.in_ok-numbers.ensures.ascending)
    c.push_marks.new.edits
    (c.in_ok-push_marks.ensures.ok ∙ ap (λ (l : List Edit). l ++ create_edits present.nodes.now c.in_ok-dirs.dirs.keys ++ modify_edits present.nodes.now numbers) c.in_ok-edits.ensures.ok)

pub returns-in_err-present-clause-fewer : goal.returns-in_err-present-clause-fewer
returns-in_err-present-clause-fewer g c =
    if_err c.from_residual.result (none_stepped c.args.graph.now (BeginsScan c.args.graph.now c.args.seen.now.files) c.args.steps.now)

pub returns-in_err-dirs-clause-fewer : goal.returns-in_err-dirs-clause-fewer
returns-in_err-dirs-clause-fewer g c =
    if_err c.from_residual-in_err-dirs.result (none_stepped c.args.graph.now (BeginsScan c.args.graph.now c.args.seen.now.files) c.args.steps.now)

pub returns-in_err-edits-clause-fewer : goal.returns-in_err-edits-clause-fewer
returns-in_err-edits-clause-fewer g c =
    if_err c.from_residual-in_err-edits.result (none_stepped c.args.graph.now (BeginsScan c.args.graph.now c.args.seen.now.files) c.args.steps.now)

pub returns-in_err-numbers-clause-fewer : goal.returns-in_err-numbers-clause-fewer
returns-in_err-numbers-clause-fewer g c =
    let present = c.in_ok-present.present in
    let graph = c.args.graph.now in
    let same = sees graph present.nodes.now c.args.seen.now.files (stamps_in present) (c.in_ok-present.ensures.nodes ∙ c.nodes.ensures) c.in_ok-present.ensures.stamps in
    if_err c.from_residual-in_err-numbers.result (subst (λ (h : GraphState × GraphState). HasSteppedAtMost graph (IsScanRoot h.0 h.1) c.args.steps.now c.to_run.new.steps) same c.in_err-numbers.ensures.fewer)

pub returns-in_err-push_marks-clause-fewer : goal.returns-in_err-push_marks-clause-fewer
returns-in_err-push_marks-clause-fewer g c =
    let present = c.in_ok-present.present in
    let graph = c.args.graph.now in
    let same = sees graph present.nodes.now c.args.seen.now.files (stamps_in present) (c.in_ok-present.ensures.nodes ∙ c.nodes.ensures) c.in_ok-present.ensures.stamps in
    if_err c.from_residual-in_err-push_marks.result (at_most (subst (λ (h : GraphState × GraphState). HasStepped graph (IsScanRoot h.0 h.1) c.args.steps.now c.to_run.new.steps) same c.in_ok-numbers.ensures.steps))

pub returns-clause-steps : goal.returns-clause-steps
returns-clause-steps g c =
    let present = c.in_ok-present.present in
    let graph = c.args.graph.now in
    let same = sees graph present.nodes.now c.args.seen.now.files (stamps_in present) (c.in_ok-present.ensures.nodes ∙ c.nodes.ensures) c.in_ok-present.ensures.stamps in
    subst (λ (h : GraphState × GraphState). HasStepped graph (IsScanRoot h.0 h.1) c.args.steps.now c.to_run.new.steps) same c.in_ok-numbers.ensures.steps
