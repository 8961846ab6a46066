use Rattle.std.proofs.Common.{ap, ◌∙◌}
use Rattle.tup_table.specs.Table.{entries_in}
use Rattle.tup_graph.specs.Transactions.{begin_edits, begun}
use Rattle.tup_graph.proofs.Committing.{begin_commits}
use Rattle.tup_graph.proofs.Rows.{begin_leaves}
use Rattle.tup_graph.specs.Graph.{GraphState}
use Rattle.tup_stored_graph.proofs.Edited.{ok_given, as_read, as_left, as_crashed}
use Rattle.tup_stored_graph.proofs.graph.Graph.begin.Goals as goal

pub commit_edits-requires-clause-read : goal.commit_edits-requires-clause-read
commit_edits-requires-clause-read g c = λ origin up is spelled.
    let old = c.args.self.now in
    let same = ok_given c.in_ok-edits.edits (begin_edits c.nodes.result.now c.args.rule) c.in_ok-edits.ensures ∙ ap (λ (h : GraphState). begin_edits h c.args.rule) c.nodes.ensures.value in
    as_read c.in_ok-edits.edits (begin_edits old.nodes c.args.rule) old.nodes (begun old.nodes c.args.rule) same (begin_leaves old.nodes c.args.rule) (entries_in old.table) origin (begin_commits (entries_in old.table) old.nodes origin up is c.args.rule c.requires.rule) spelled

pub returns-clause-leaves : goal.returns-clause-leaves
returns-clause-leaves g c =
    let old = c.args.self.now in
    let same = ok_given c.in_ok-edits.edits (begin_edits c.nodes.result.now c.args.rule) c.in_ok-edits.ensures ∙ ap (λ (h : GraphState). begin_edits h c.args.rule) c.nodes.ensures.value in
    as_left c.in_ok-edits.edits (begin_edits old.nodes c.args.rule) old.nodes (begun old.nodes c.args.rule) same (begin_leaves old.nodes c.args.rule) old c.commit_edits.new.self c.args.site.now c.commit_edits.new.site c.commit_edits.result c.commit_edits.ensures.leaves

pub returns-clause-crash : goal.returns-clause-crash
returns-clause-crash g c = λ tells.
    let old = c.args.self.now in
    let same = ok_given c.in_ok-edits.edits (begin_edits c.nodes.result.now c.args.rule) c.in_ok-edits.ensures ∙ ap (λ (h : GraphState). begin_edits h c.args.rule) c.nodes.ensures.value in
    as_crashed c.in_ok-edits.edits (begin_edits old.nodes c.args.rule) old.nodes (begun old.nodes c.args.rule) same (begin_leaves old.nodes c.args.rule) g.S.Site.moment g.S.Site.left_since c.args.site.now c.commit_edits.new.site old.nodes (c.commit_edits.ensures.crash tells)
