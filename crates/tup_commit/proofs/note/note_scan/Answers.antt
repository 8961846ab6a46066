use Rattle.std.proofs.Common.{subst}
use Rattle.tup_graph.specs.Edits.{edited_by}
use Rattle.tup_graph.specs.Graph.{GraphState}
use Rattle.tup_graph.specs.Opening.{IsGraphOf}
use Rattle.tup_table.specs.Table.{entries_in}
use Rattle.tup_graph.specs.Scan.{IsScanned}
use Rattle.tup_closure.specs.Steps.{HasStepped, HasSteppedAtMost}
use Rattle.tup_closure.proofs.Stepping.{at_most, if_err, if_ok}
use Rattle.tup_scan_diff.specs.Edits.{AreScanEdits, BeginsScan}
use Rattle.tup_stored_graph.proofs.Fresh.{ok_is_fresh}
use Rattle.tup_commit.proofs.Noting.{notes, stands_so}
use Rattle.tup_commit.proofs.Crashes.{by_commit, by_nothing}
use Rattle.tup_commit.proofs.note.note_scan.Goals as goal

pub note_scan-requires : goal.note_scan-requires
note_scan-requires g c = record {
  runs = c.runs_are_of_rules.ensures (entries_in c.args.graph.now.table) c.indexed.result.now (c.indexed.ensures.graph c.requires.fresh);
}

pub commit_edits-requires-clause-read : goal.commit_edits-requires-clause-read
commit_edits-requires-clause-read g c = λ origin up is spelled.
    let old = c.args.graph.now in
    let edits = c.in_ok-edits.edits in
    let are = subst (λ (nodes : GraphState). AreScanEdits nodes c.args.seen.now.files c.args.seen.now.config edits) c.indexed.ensures.value c.in_ok-edits.ensures.edits in
    c.scan_edits_are_read.ensures (entries_in old.table) old.nodes c.args.seen.now.files c.args.seen.now.config edits origin up is are spelled

pub returns-clause-notes : goal.returns-clause-notes
returns-clause-notes g c =
    let old = c.args.graph.now in
    let edits = c.in_ok-edits.edits in
    let are = subst (λ (nodes : GraphState). AreScanEdits nodes c.args.seen.now.files c.args.seen.now.config edits) c.indexed.ensures.value c.in_ok-edits.ensures.edits in
    notes (AreScanEdits old.nodes c.args.seen.now.files c.args.seen.now.config) (IsScanned old.nodes c.args.seen.now.files c.args.seen.now.config) old edits are c.commit_edits.new.self c.args.site.now c.commit_edits.new.site c.commit_edits.result c.commit_edits.ensures.leaves c.commit_edits.ensures.full

pub returns-clause-scanned : goal.returns-clause-scanned
returns-clause-scanned g c =
    let old = c.args.graph.now in
    let edits = c.in_ok-edits.edits in
    let are = subst (λ (nodes : GraphState). AreScanEdits nodes c.args.seen.now.files c.args.seen.now.config edits) c.indexed.ensures.value c.in_ok-edits.ensures.edits in
    stands_so (AreScanEdits old.nodes c.args.seen.now.files c.args.seen.now.config) (IsScanned old.nodes c.args.seen.now.files c.args.seen.now.config) old edits are c.commit_edits.new.self c.args.site.now c.commit_edits.new.site
    (c.scan_edits_leave.ensures old.nodes c.args.seen.now.files c.args.seen.now.config edits are) c.commit_edits.result c.commit_edits.ensures.leaves

pub returns-clause-fresh : goal.returns-clause-fresh
returns-clause-fresh g c =
    let old = c.args.graph.now in
    let edits = c.in_ok-edits.edits in
    ok_is_fresh edits (edited_by old.nodes edits) old c.commit_edits.new.self c.args.site.now c.commit_edits.new.site c.commit_edits.result c.requires.fresh c.commit_edits.ensures.leaves

pub returns-clause-crash : goal.returns-clause-crash
returns-clause-crash g c = λ tells.
    let old = c.args.graph.now in
    let edits = c.in_ok-edits.edits in
    let are = subst (λ (nodes : GraphState). AreScanEdits nodes c.args.seen.now.files c.args.seen.now.config edits) c.indexed.ensures.value c.in_ok-edits.ensures.edits in
    by_commit g.S.Site.world g.S.Site.moment g.S.Site.left_since old.table old.nodes (IsScanned old.nodes c.args.seen.now.files c.args.seen.now.config) (edited_by old.nodes edits)
    (c.scan_edits_leave.ensures old.nodes c.args.seen.now.files c.args.seen.now.config edits are) c.args.site.now c.commit_edits.new.site (c.commit_edits.ensures.crash tells)

pub returns-in_err-edits-clause-crash : goal.returns-in_err-edits-clause-crash
returns-in_err-edits-clause-crash g c = λ tells.
    let old = c.args.graph.now in
    by_nothing g.S.Site.world g.S.Site.moment g.S.Site.left_since old.table old.nodes (IsScanned old.nodes c.args.seen.now.files c.args.seen.now.config) c.args.site.now (c.requires.stands tells)
    (subst (λ (nodes : GraphState). IsGraphOf (entries_in old.table) nodes) c.indexed.ensures.value (c.indexed.ensures.graph c.requires.fresh))

pub returns-in_err-edits-clause-fewer : goal.returns-in_err-edits-clause-fewer
returns-in_err-edits-clause-fewer g c =
    if_err c.from_residual.result (subst (λ (nodes : GraphState). HasSteppedAtMost nodes (BeginsScan nodes c.args.seen.now.files) c.args.steps.now c.note_scan.new.steps) c.indexed.ensures.value c.in_err-edits.ensures.fewer)

pub returns-clause-steps : goal.returns-clause-steps
returns-clause-steps g c =
    if_ok c.commit_edits.result
    (subst (λ (nodes : GraphState). HasStepped nodes (BeginsScan nodes c.args.seen.now.files) c.args.steps.now c.note_scan.new.steps) c.indexed.ensures.value c.in_ok-edits.ensures.steps)

pub returns-clause-fewer : goal.returns-clause-fewer
returns-clause-fewer g c =
    if_err c.commit_edits.result
    (at_most (subst (λ (nodes : GraphState). HasStepped nodes (BeginsScan nodes c.args.seen.now.files) c.args.steps.now c.note_scan.new.steps) c.indexed.ensures.value c.in_ok-edits.ensures.steps))
