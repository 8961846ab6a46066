use Rattle.std.proofs.Common.{filter, not, inl, sym, ap, subst, ◌∙◌}
use Rattle.tup_site.specs.Crash.{NoStep}
use Rattle.tup_site.specs.World.{World}
use Rattle.tup_table.specs.Table.{entries_in}
use Rattle.tup_table.proofs.Stands.{stands_on}
use Rattle.tup_graph.specs.Opening.{IsGraphOf}
use Rattle.tup_graph.specs.Transactions.{forget_edits, with_forgotten}
use Rattle.tup_ledger.proofs.Given.{ok_after}
use Rattle.tup_rule.specs.Rule.{among}
use Rattle.tup_ledger.specs.Listing.{Lists}
use Rattle.tup_ledger.specs.Owned.{owned_in}
use Rattle.tup_ledger.proofs.Keys.{owned_without}
use Rattle.tup_ledger.proofs.Guarding.{durable_now, either_quiet, either_settled, forget_keeps, guards_now, nothing_keeps, pins_on}
use Rattle.tup_ledger.proofs.Listing.{committed_lists, lists_now, settled_first, settled_not}
use Rattle.tup_ledger.proofs.giving.give_up.Goals as goal

pub returns-in_err-settle-clause-stands : goal.returns-in_err-settle-clause-stands
returns-in_err-settle-clause-stands g c = λ tells fresh.
    let site_laws = g.met.S.Site in
    let mid = c.settle.new.site in
    stands_on g.S.Site.world g.S.Site.moment g.S.Site.left_since c.args.graph.now.table c.args.site.now mid NoStep (λ v w none. absurd none)
    (λ t u w le left. site_laws.earlier mid t u w tells le left) (c.settle.ensures.crash tells) (ap (λ (w : World). w.store) (c.settle.ensures.same tells)) (c.requires.stands tells)

pub returns-in_err-settle-clause-crash : goal.returns-in_err-settle-clause-crash
returns-in_err-settle-clause-crash g c = λ tells.
    let old = c.args.graph.now in
    let is = subst (IsGraphOf (entries_in old.table)) c.nodes.ensures.value (c.nodes.ensures.graph c.requires.fresh) in
    either_quiet g.S.Site.world g.S.Site.moment g.S.Site.left_since old.table old.nodes c.args.site.now (c.requires.stands tells) is c.settle.new.site (with_forgotten old.nodes c.args.paths.now) (c.settle.ensures.crash tells)

pub returns-in_err-settle-clause-sources : goal.returns-in_err-settle-clause-sources
returns-in_err-settle-clause-sources g c = λ tells kept guards.
    let site_laws = g.met.S.Site in
    let old = c.args.graph.now in
    let mid = c.settle.new.site in
    let is = subst (IsGraphOf (entries_in old.table)) c.nodes.ensures.value (c.nodes.ensures.graph c.requires.fresh) in
    let stands =
    stands_on g.S.Site.world g.S.Site.moment g.S.Site.left_since old.table c.args.site.now mid NoStep (λ v w none. absurd none)
    (λ t u w le left. site_laws.earlier mid t u w tells le left) (c.settle.ensures.crash tells) (ap (λ (w : World). w.store) (c.settle.ensures.same tells)) (c.requires.stands tells) in
    let images = nothing_keeps g.S.Site.world g.S.Site.moment g.S.Site.left_since old.table old.nodes c.args.site.now (c.requires.stands tells) is kept mid guards (c.settle.ensures.crash tells) in
    record {
      images = images;
      guards = λ fresh.
          guards_now g.S.Site.world g.S.Site.moment g.S.Site.left_since old.table old.nodes mid stands is kept c.args.site.now (λ t u w le left. site_laws.earlier mid t u w tells le left) (site_laws.present mid tells) images;
    }

pub forget-ended-requires-clause-stands : goal.forget-ended-requires-clause-stands
forget-ended-requires-clause-stands g c = λ tells.
    let site_laws = g.met.S.Site in
    let mid = c.settle.new.site in
    stands_on g.S.Site.world g.S.Site.moment g.S.Site.left_since c.args.graph.now.table c.args.site.now mid NoStep (λ v w none. absurd none)
    (λ t u w le left. site_laws.earlier mid t u w tells le left) (c.settle.ensures.crash tells) (ap (λ (w : World). w.store) (c.settle.ensures.same tells)) (c.requires.stands tells)

pub returns-clause-durable : goal.returns-clause-durable
returns-clause-durable g c = λ tells.
    let site_laws = g.met.S.Site in
    let old = c.args.graph.now in
    let paths = c.args.paths.now in
    let mid = c.settle.new.site in
    let new = c.forget-ended.new.self in
    let end = c.forget-ended.new.site in
    ok_after (forget_edits old.nodes paths) (with_forgotten old.nodes paths) old new c.requires.fresh mid end c.forget-ended.result c.forget-ended.ensures.leaves
    (λ fresh nodes.
    durable_now g.S.Site.world g.S.Site.moment g.S.Site.left_since new.table end (c.forget-ended.ensures.stands tells fresh)
    (pins_on g.S.Site.world g.S.Site.moment g.S.Site.left_since old.nodes (with_forgotten old.nodes paths) mid end (λ t u w le left. site_laws.earlier end t u w tells le left)
    (c.in_ok-settle.ensures.durable tells) (c.forget-ended.ensures.tree tells) (c.forget-ended.ensures.crash tells)))

pub returns-clause-owned : goal.returns-clause-owned
returns-clause-owned g c =
    let old = c.args.graph.now in
    let paths = c.args.paths.now in
    let new = c.forget-ended.new.self in
    ok_after (forget_edits old.nodes paths) (with_forgotten old.nodes paths) old new c.requires.fresh c.settle.new.site c.forget-ended.new.site c.forget-ended.result c.forget-ended.ensures.leaves
    (λ fresh nodes. (fresh, ap owned_in nodes ∙ owned_without old.nodes paths))

pub returns-clause-lists : goal.returns-clause-lists
returns-clause-lists g c = λ tells.
    let site_laws = g.met.S.Site in
    let old = c.args.graph.now in
    let paths = c.args.paths.now in
    let new = c.forget-ended.new.self in
    let end = c.forget-ended.new.site in
    ok_after (forget_edits old.nodes paths) (with_forgotten old.nodes paths) old new c.requires.fresh c.settle.new.site end c.forget-ended.result c.forget-ended.ensures.leaves
    (λ fresh nodes. lists_now g.S.Site.world g.S.Site.moment g.S.Site.left_since end (site_laws.present end tells) new.table new.nodes (c.forget-ended.ensures.stands tells fresh)
    (subst (IsGraphOf (entries_in new.table)) c.nodes-2.ensures.value (c.nodes-2.ensures.graph fresh)))

pub returns-in_err-settle-clause-keeps : goal.returns-in_err-settle-clause-keeps
returns-in_err-settle-clause-keeps g c = λ tells.
    let site_laws = g.met.S.Site in
    let old = c.args.graph.now in
    let site = c.args.site.now in
    let is = subst (IsGraphOf (entries_in old.table)) c.nodes.ensures.value (c.nodes.ensures.graph c.requires.fresh) in
    let was = lists_now g.S.Site.world g.S.Site.moment g.S.Site.left_since site (site_laws.present site tells) old.table old.nodes (c.requires.stands tells) is in
    inl (subst (λ (w : World). Lists w.store (owned_in old.nodes)) (sym (c.settle.ensures.same tells)) was)

pub returns-clause-keeps : goal.returns-clause-keeps
returns-clause-keeps g c = λ tells.
    let site_laws = g.met.S.Site in
    let old = c.args.graph.now in
    let paths = c.args.paths.now in
    let end = c.forget-ended.new.site in
    committed_lists g.S.Site.world g.S.Site.moment g.S.Site.left_since c.settle.new.site end (λ t u w le left. site_laws.earlier end t u w tells le left) (site_laws.present end tells) old.nodes (with_forgotten old.nodes paths)
    (filter (λ path. not (among path paths)) (owned_in old.nodes)) (owned_without old.nodes paths) (c.forget-ended.ensures.crash tells)

pub returns-in_err-settle-clause-settled : goal.returns-in_err-settle-clause-settled
returns-in_err-settle-clause-settled g c = λ tells.
    settled_not g.S.Site.world g.S.Site.moment g.S.Site.left_since (g.S.Site.world c.args.site.now) c.args.site.now c.settle.new.site (c.settle.ensures.crash tells)

pub returns-clause-settled : goal.returns-clause-settled
returns-clause-settled g c = λ tells.
    let site_laws = g.met.S.Site in
    let old = c.args.graph.now in
    let mid = c.settle.new.site in
    settled_first g.S.Site.world g.S.Site.moment g.S.Site.left_since (g.S.Site.world c.args.site.now) c.args.site.now mid c.forget-ended.new.site old.nodes (with_forgotten old.nodes c.args.paths.now)
    (λ t u w le left. site_laws.earlier mid t u w tells le left) (c.settle.ensures.same tells) (c.settle.ensures.crash tells) (c.in_ok-settle.ensures.durable tells) (c.forget-ended.ensures.crash tells)

pub returns-clause-crash : goal.returns-clause-crash
returns-clause-crash g c = λ tells.
    let site_laws = g.met.S.Site in
    let old = c.args.graph.now in
    let mid = c.settle.new.site in
    let is = subst (IsGraphOf (entries_in old.table)) c.nodes.ensures.value (c.nodes.ensures.graph c.requires.fresh) in
    either_settled g.S.Site.world g.S.Site.moment g.S.Site.left_since old.table old.nodes c.args.site.now (c.requires.stands tells) is mid c.forget-ended.new.site (with_forgotten old.nodes c.args.paths.now)
    (λ t u w le left. site_laws.earlier mid t u w tells le left) (c.settle.ensures.crash tells) (c.forget-ended.ensures.crash tells)

pub returns-clause-sources : goal.returns-clause-sources
returns-clause-sources g c = λ tells kept guards.
    let site_laws = g.met.S.Site in
    let old = c.args.graph.now in
    let mid = c.settle.new.site in
    let new = c.forget-ended.new.self in
    let end = c.forget-ended.new.site in
    let is = subst (IsGraphOf (entries_in old.table)) c.nodes.ensures.value (c.nodes.ensures.graph c.requires.fresh) in
    let stands =
    stands_on g.S.Site.world g.S.Site.moment g.S.Site.left_since old.table c.args.site.now mid NoStep (λ v w none. absurd none)
    (λ t u w le left. site_laws.earlier mid t u w tells le left) (c.settle.ensures.crash tells) (ap (λ (w : World). w.store) (c.settle.ensures.same tells)) (c.requires.stands tells) in
    let images =
    forget_keeps g.S.Site.world g.S.Site.moment g.S.Site.left_since old.table old.nodes kept c.args.paths.now c.args.site.now mid end (c.requires.stands tells) stands is (λ t u w le left. site_laws.earlier mid t u w tells le left) (site_laws.present mid tells)
    guards (c.requires.gone tells) (c.settle.ensures.same tells) (c.settle.ensures.crash tells) (c.in_ok-settle.ensures.durable tells) (c.forget-ended.ensures.crash tells) in
    record {
      images = images;
      guards = λ fresh.
          guards_now g.S.Site.world g.S.Site.moment g.S.Site.left_since new.table new.nodes end (c.forget-ended.ensures.stands tells fresh)
          (subst (IsGraphOf (entries_in new.table)) c.nodes-2.ensures.value (c.nodes-2.ensures.graph fresh)) kept c.args.site.now (λ t u w le left. site_laws.earlier end t u w tells le left) (site_laws.present end tells) images;
    }
