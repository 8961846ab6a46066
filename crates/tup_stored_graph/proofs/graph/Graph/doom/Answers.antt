use Rattle.std.proofs.Common.{ap, ◌∙◌}
use Rattle.tup_table.specs.Table.{entries_in}
use Rattle.tup_graph.specs.Transactions.{doom_edits, with_doomed}
use Rattle.tup_graph.proofs.Committing.{doom_commits}
use Rattle.tup_graph.proofs.Rows.{doom_leaves}
use Rattle.tup_graph.specs.Graph.{GraphState}
use Rattle.tup_stored_graph.proofs.Edited.{ok_given, as_read, as_left, as_crashed}
use Rattle.tup_stored_graph.proofs.graph.Graph.doom.Goals as goal

pub commit_edits-requires-clause-read : goal.commit_edits-requires-clause-read
commit_edits-requires-clause-read g c = λ origin up is spelled.
    let old = c.args.self.now in
    let same = ok_given c.in_ok-edits.edits (doom_edits c.nodes.result.now c.args.paths.now) c.in_ok-edits.ensures ∙ ap (λ (h : GraphState). doom_edits h c.args.paths.now) c.nodes.ensures.value in
    as_read c.in_ok-edits.edits (doom_edits old.nodes c.args.paths.now) old.nodes (with_doomed old.nodes c.args.paths.now) same (doom_leaves old.nodes c.args.paths.now) (entries_in old.table) origin (doom_commits (entries_in old.table) old.nodes origin up is c.args.paths.now) spelled

pub returns-clause-leaves : goal.returns-clause-leaves
returns-clause-leaves g c =
    let old = c.args.self.now in
    let same = ok_given c.in_ok-edits.edits (doom_edits c.nodes.result.now c.args.paths.now) c.in_ok-edits.ensures ∙ ap (λ (h : GraphState). doom_edits h c.args.paths.now) c.nodes.ensures.value in
    as_left c.in_ok-edits.edits (doom_edits old.nodes c.args.paths.now) old.nodes (with_doomed old.nodes c.args.paths.now) same (doom_leaves old.nodes c.args.paths.now) old c.commit_edits.new.self c.args.site.now c.commit_edits.new.site c.commit_edits.result c.commit_edits.ensures.leaves

pub returns-clause-crash : goal.returns-clause-crash
returns-clause-crash g c = λ tells.
    let old = c.args.self.now in
    let same = ok_given c.in_ok-edits.edits (doom_edits c.nodes.result.now c.args.paths.now) c.in_ok-edits.ensures ∙ ap (λ (h : GraphState). doom_edits h c.args.paths.now) c.nodes.ensures.value in
    as_crashed c.in_ok-edits.edits (doom_edits old.nodes c.args.paths.now) old.nodes (with_doomed old.nodes c.args.paths.now) same (doom_leaves old.nodes c.args.paths.now) g.S.Site.moment g.S.Site.left_since c.args.site.now c.commit_edits.new.site old.nodes (c.commit_edits.ensures.crash tells)
