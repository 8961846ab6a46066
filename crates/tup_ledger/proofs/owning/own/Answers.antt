use Rattle.std.proofs.Common.{◌++◌, inl, ap, subst, ◌∙◌}
use Rattle.tup_table.specs.Table.{entries_in}
use Rattle.tup_graph.specs.Graph.{GraphState}
use Rattle.tup_graph.specs.Opening.{IsGraphOf}
use Rattle.tup_stored_graph.proofs.Edited.{ok_given, as_read, as_left, as_crashed}
use Rattle.tup_stored_graph.proofs.Crashes.{as_it_was}
use Rattle.tup_ledger.specs.Ascending.{ascending}
use Rattle.tup_ledger.specs.Owned.{own_edits, owned_in, with_owned}
use Rattle.tup_ledger.proofs.Given.{ok_after}
use Rattle.tup_ledger.proofs.Guarding.{at_rest, nothing_keeps, own_keeps, guards_now}
use Rattle.tup_ledger.proofs.Owned.{own_leaves, own_commits}
use Rattle.tup_ledger.proofs.Keys.{owned_with}
use Rattle.tup_ledger.proofs.Listing.{committed_lists, lists_now}
use Rattle.tup_ledger.proofs.owning.own.Goals as goal

pub commit_edits-ended-requires-clause-read : goal.commit_edits-ended-requires-clause-read
commit_edits-ended-requires-clause-read g c = λ origin up is spelled.
    let old = c.args.graph.now in
    let paths = c.args.paths.now in
    let same = ok_given c.in_ok-edits.edits (own_edits c.nodes.result.now paths) c.in_ok-edits.ensures ∙ ap (λ (n : GraphState). own_edits n paths) c.nodes.ensures.value in
    as_read c.in_ok-edits.edits (own_edits old.nodes paths) old.nodes (with_owned old.nodes paths) same (own_leaves old.nodes paths) (entries_in old.table) origin (own_commits (entries_in old.table) old.nodes origin up is paths) spelled

pub returns-clause-leaves : goal.returns-clause-leaves
returns-clause-leaves g c =
    let old = c.args.graph.now in
    let paths = c.args.paths.now in
    let same = ok_given c.in_ok-edits.edits (own_edits c.nodes.result.now paths) c.in_ok-edits.ensures ∙ ap (λ (n : GraphState). own_edits n paths) c.nodes.ensures.value in
    as_left c.in_ok-edits.edits (own_edits old.nodes paths) old.nodes (with_owned old.nodes paths) same (own_leaves old.nodes paths) old c.commit_edits-ended.new.self c.args.site.now c.commit_edits-ended.new.site
    c.commit_edits-ended.result c.commit_edits-ended.ensures.leaves

pub returns-clause-owned : goal.returns-clause-owned
returns-clause-owned g c =
    let old = c.args.graph.now in
    let new = c.commit_edits-ended.new.self in
    let end = c.commit_edits-ended.new.site in
    let paths = c.args.paths.now in
    let same = ok_given c.in_ok-edits.edits (own_edits c.nodes.result.now paths) c.in_ok-edits.ensures ∙ ap (λ (n : GraphState). own_edits n paths) c.nodes.ensures.value in
    ok_after (own_edits old.nodes paths) (with_owned old.nodes paths) old new c.requires.fresh c.args.site.now end c.commit_edits-ended.result
    (as_left c.in_ok-edits.edits (own_edits old.nodes paths) old.nodes (with_owned old.nodes paths) same (own_leaves old.nodes paths) old new c.args.site.now end c.commit_edits-ended.result c.commit_edits-ended.ensures.leaves)
    (λ fresh nodes. (fresh, ap owned_in nodes ∙ owned_with old.nodes paths))

pub returns-clause-lists : goal.returns-clause-lists
returns-clause-lists g c = λ tells.
    let site_laws = g.met.S.Site in
    let old = c.args.graph.now in
    let new = c.commit_edits-ended.new.self in
    let end = c.commit_edits-ended.new.site in
    let paths = c.args.paths.now in
    let same = ok_given c.in_ok-edits.edits (own_edits c.nodes.result.now paths) c.in_ok-edits.ensures ∙ ap (λ (n : GraphState). own_edits n paths) c.nodes.ensures.value in
    ok_after (own_edits old.nodes paths) (with_owned old.nodes paths) old new c.requires.fresh c.args.site.now end c.commit_edits-ended.result
    (as_left c.in_ok-edits.edits (own_edits old.nodes paths) old.nodes (with_owned old.nodes paths) same (own_leaves old.nodes paths) old new c.args.site.now end c.commit_edits-ended.result c.commit_edits-ended.ensures.leaves)
    (λ fresh nodes. lists_now g.S.Site.world g.S.Site.moment g.S.Site.left_since end (site_laws.present end tells) new.table new.nodes (c.commit_edits-ended.ensures.stands tells fresh)
    (subst (IsGraphOf (entries_in new.table)) c.nodes-2.ensures.value (c.nodes-2.ensures.graph fresh)))

pub returns-clause-crash : goal.returns-clause-crash
returns-clause-crash g c = λ tells.
    let old = c.args.graph.now in
    let paths = c.args.paths.now in
    let same = ok_given c.in_ok-edits.edits (own_edits c.nodes.result.now paths) c.in_ok-edits.ensures ∙ ap (λ (n : GraphState). own_edits n paths) c.nodes.ensures.value in
    as_crashed c.in_ok-edits.edits (own_edits old.nodes paths) old.nodes (with_owned old.nodes paths) same (own_leaves old.nodes paths) g.S.Site.moment g.S.Site.left_since c.args.site.now c.commit_edits-ended.new.site old.nodes
    (c.commit_edits-ended.ensures.crash tells)

pub returns-clause-keeps : goal.returns-clause-keeps
returns-clause-keeps g c = λ tells.
    let site_laws = g.met.S.Site in
    let old = c.args.graph.now in
    let end = c.commit_edits-ended.new.site in
    let paths = c.args.paths.now in
    let same = ok_given c.in_ok-edits.edits (own_edits c.nodes.result.now paths) c.in_ok-edits.ensures ∙ ap (λ (n : GraphState). own_edits n paths) c.nodes.ensures.value in
    committed_lists g.S.Site.world g.S.Site.moment g.S.Site.left_since c.args.site.now end (λ t u w le left. site_laws.earlier end t u w tells le left) (site_laws.present end tells) old.nodes (with_owned old.nodes paths)
    (ascending (owned_in old.nodes ++ paths)) (owned_with old.nodes paths)
    (as_crashed c.in_ok-edits.edits (own_edits old.nodes paths) old.nodes (with_owned old.nodes paths) same (own_leaves old.nodes paths) g.S.Site.moment g.S.Site.left_since c.args.site.now end old.nodes
    (c.commit_edits-ended.ensures.crash tells))

pub returns-clause-sources : goal.returns-clause-sources
returns-clause-sources g c = λ tells kept guards none may.
    let site_laws = g.met.S.Site in
    let old = c.args.graph.now in
    let new = c.commit_edits-ended.new.self in
    let end = c.commit_edits-ended.new.site in
    let paths = c.args.paths.now in
    let is = subst (IsGraphOf (entries_in old.table)) c.nodes.ensures.value (c.nodes.ensures.graph c.requires.fresh) in
    let same = ok_given c.in_ok-edits.edits (own_edits c.nodes.result.now paths) c.in_ok-edits.ensures ∙ ap (λ (n : GraphState). own_edits n paths) c.nodes.ensures.value in
    let crash =
    as_crashed c.in_ok-edits.edits (own_edits old.nodes paths) old.nodes (with_owned old.nodes paths) same (own_leaves old.nodes paths) g.S.Site.moment g.S.Site.left_since c.args.site.now end old.nodes
    (c.commit_edits-ended.ensures.crash tells) in
    let images = own_keeps g.S.Site.world g.S.Site.moment g.S.Site.left_since old.table old.nodes c.args.site.now (c.requires.stands tells) is kept end paths guards none may crash in
    record {
      images = images;
      guards = λ fresh.
          guards_now g.S.Site.world g.S.Site.moment g.S.Site.left_since new.table new.nodes end (c.commit_edits-ended.ensures.stands tells fresh)
          (subst (IsGraphOf (entries_in new.table)) c.nodes-2.ensures.value (c.nodes-2.ensures.graph fresh)) kept c.args.site.now (λ t u w le left. site_laws.earlier end t u w tells le left) (site_laws.present end tells) images;
    }

pub returns-in_err-edits-clause-crash : goal.returns-in_err-edits-clause-crash
returns-in_err-edits-clause-crash g c = λ tells.
    let old = c.args.graph.now in
    let is = subst (IsGraphOf (entries_in old.table)) c.nodes.ensures.value (c.nodes.ensures.graph c.requires.fresh) in
    as_it_was g.S.Site.world g.S.Site.moment g.S.Site.left_since old.table old.nodes c.args.site.now (c.requires.stands tells) is (with_owned old.nodes c.args.paths.now)

pub returns-in_err-edits-clause-keeps : goal.returns-in_err-edits-clause-keeps
returns-in_err-edits-clause-keeps g c = λ tells.
    let site_laws = g.met.S.Site in
    let old = c.args.graph.now in
    let site = c.args.site.now in
    let is = subst (IsGraphOf (entries_in old.table)) c.nodes.ensures.value (c.nodes.ensures.graph c.requires.fresh) in
    inl (lists_now g.S.Site.world g.S.Site.moment g.S.Site.left_since site (site_laws.present site tells) old.table old.nodes (c.requires.stands tells) is)

pub returns-in_err-edits-clause-sources : goal.returns-in_err-edits-clause-sources
returns-in_err-edits-clause-sources g c = λ tells kept guards none may.
    let old = c.args.graph.now in
    let site = c.args.site.now in
    let is = subst (IsGraphOf (entries_in old.table)) c.nodes.ensures.value (c.nodes.ensures.graph c.requires.fresh) in
    record {
      images = nothing_keeps g.S.Site.world g.S.Site.moment g.S.Site.left_since old.table old.nodes site (c.requires.stands tells) is kept site guards (at_rest g.S.Site.moment g.S.Site.left_since site);
      guards = λ fresh. guards;
    }
