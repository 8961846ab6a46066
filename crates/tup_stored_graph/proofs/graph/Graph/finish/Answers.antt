use Rattle.std.proofs.Common.{ap, ◌∙◌}
use Rattle.tup_table.specs.Table.{entries_in}
use Rattle.tup_graph.specs.Transactions.{finish_edits, finished}
use Rattle.tup_graph.proofs.Committing.{finish_commits}
use Rattle.tup_graph.proofs.Rows.{finish_leaves}
use Rattle.tup_graph.specs.Graph.{GraphState}
use Rattle.tup_stored_graph.proofs.Edited.{ok_given, as_read, as_left, as_crashed}
use Rattle.tup_stored_graph.proofs.graph.Graph.finish.Goals as goal

pub commit_edits-requires-clause-read : goal.commit_edits-requires-clause-read
commit_edits-requires-clause-read g c = λ origin up is spelled.
    let old = c.args.self.now in
    let same = ok_given c.in_ok-edits.edits (finish_edits c.nodes.result.now c.args.rule c.args.run) c.in_ok-edits.ensures ∙ ap (λ (h : GraphState). finish_edits h c.args.rule c.args.run) c.nodes.ensures.value in
    as_read c.in_ok-edits.edits (finish_edits old.nodes c.args.rule c.args.run) old.nodes (finished old.nodes c.args.rule c.args.run) same (finish_leaves old.nodes c.args.rule c.args.run) (entries_in old.table) origin (finish_commits (entries_in old.table) old.nodes origin up is c.args.rule c.args.run c.requires.rule) spelled

pub returns-clause-leaves : goal.returns-clause-leaves
returns-clause-leaves g c =
    let old = c.args.self.now in
    let same = ok_given c.in_ok-edits.edits (finish_edits c.nodes.result.now c.args.rule c.args.run) c.in_ok-edits.ensures ∙ ap (λ (h : GraphState). finish_edits h c.args.rule c.args.run) c.nodes.ensures.value in
    as_left c.in_ok-edits.edits (finish_edits old.nodes c.args.rule c.args.run) old.nodes (finished old.nodes c.args.rule c.args.run) same (finish_leaves old.nodes c.args.rule c.args.run) old c.commit_edits.new.self c.args.site.now c.commit_edits.new.site c.commit_edits.result c.commit_edits.ensures.leaves

pub returns-clause-crash : goal.returns-clause-crash
returns-clause-crash g c = λ tells.
    let old = c.args.self.now in
    let same = ok_given c.in_ok-edits.edits (finish_edits c.nodes.result.now c.args.rule c.args.run) c.in_ok-edits.ensures ∙ ap (λ (h : GraphState). finish_edits h c.args.rule c.args.run) c.nodes.ensures.value in
    as_crashed c.in_ok-edits.edits (finish_edits old.nodes c.args.rule c.args.run) old.nodes (finished old.nodes c.args.rule c.args.run) same (finish_leaves old.nodes c.args.rule c.args.run) g.S.Site.moment g.S.Site.left_since c.args.site.now c.commit_edits.new.site old.nodes (c.commit_edits.ensures.crash tells)
