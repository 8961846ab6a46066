use Rattle.tup_table.specs.Table.{entries_in}
use Rattle.tup_graph.specs.Transactions.{flag_edits, with_flagged}
use Rattle.tup_graph.proofs.Committing.{flag_commits}
use Rattle.tup_graph.proofs.Rows.{flag_leaves}
use Rattle.tup_stored_graph.proofs.Edited.{ok_given, as_read, as_left, as_crashed}
use Rattle.tup_stored_graph.proofs.graph.Graph.flag.Goals as goal

pub commit_edits-requires-clause-read : goal.commit_edits-requires-clause-read
commit_edits-requires-clause-read g c = λ origin up is spelled.
    let old = c.args.self.now in
    let same = ok_given c.in_ok-edits.edits (flag_edits c.args.rules.now) c.in_ok-edits.ensures in
    as_read c.in_ok-edits.edits (flag_edits c.args.rules.now) old.nodes (with_flagged old.nodes c.args.rules.now) same (flag_leaves old.nodes c.args.rules.now) (entries_in old.table) origin (flag_commits (entries_in old.table) old.nodes origin up is c.args.rules.now c.requires.rules) spelled

pub returns-clause-leaves : goal.returns-clause-leaves
returns-clause-leaves g c =
    let old = c.args.self.now in
    let same = ok_given c.in_ok-edits.edits (flag_edits c.args.rules.now) c.in_ok-edits.ensures in
    as_left c.in_ok-edits.edits (flag_edits c.args.rules.now) old.nodes (with_flagged old.nodes c.args.rules.now) same (flag_leaves old.nodes c.args.rules.now) old c.commit_edits.new.self c.args.site.now c.commit_edits.new.site c.commit_edits.result c.commit_edits.ensures.leaves

pub returns-clause-crash : goal.returns-clause-crash
returns-clause-crash g c = λ tells.
    let old = c.args.self.now in
    let same = ok_given c.in_ok-edits.edits (flag_edits c.args.rules.now) c.in_ok-edits.ensures in
    as_crashed c.in_ok-edits.edits (flag_edits c.args.rules.now) old.nodes (with_flagged old.nodes c.args.rules.now) same (flag_leaves old.nodes c.args.rules.now) g.S.Site.moment g.S.Site.left_since c.args.site.now c.commit_edits.new.site old.nodes (c.commit_edits.ensures.crash tells)
