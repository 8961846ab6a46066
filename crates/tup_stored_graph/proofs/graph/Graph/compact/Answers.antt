use Rattle.std.proofs.Common.{IsTrue, sym, subst}
use Rattle.tup_site.specs.Crash.{GoesOn}
use Rattle.tup_table.specs.Entries.{Standing, IsAscending}
use Rattle.tup_table.specs.Images.{CompactStep}
use Rattle.tup_table.specs.Table.{entries_in, is_fresh as is_fresh_table}
use Rattle.tup_stored_graph.specs.Held.{Held, is_fresh}
use Rattle.tup_stored_graph.proofs.Committing.{sound_now}
use Rattle.tup_stored_graph.proofs.Compacting.{graph_after, fresh_after}
use Rattle.tup_stored_graph.proofs.Crashes.{as_compacted}
use Rattle.tup_stored_graph.proofs.Fresh.{second}
use Rattle.tup_stored_graph.proofs.graph.Graph.compact.Goals as goal

pub invariant_of-self : goal.invariant_of-self
invariant_of-self g c = λ whole.
    graph_after c.self.inside.table c.compact.new.self c.args.site.now c.compact.new.site c.self.inside.nodes
    (subst (λ (es : Standing). IsAscending es) c.entries.ensures c.keys_ascend.ensures) (c.self.invariant whole) c.compact.result c.compact.ensures.leaves

pub invariant_of-self-2 : goal.invariant_of-self-2
invariant_of-self-2 g c = λ whole.
    graph_after c.self.inside.table c.compact.new.self c.args.site.now c.compact.new.site c.self.inside.nodes
    (subst (λ (es : Standing). IsAscending es) c.entries.ensures c.keys_ascend.ensures) (c.self.invariant whole) c.compact.result c.compact.ensures.leaves

pub returns-in_err-compact-clause-stands : goal.returns-in_err-compact-clause-stands
returns-in_err-compact-clause-stands g c = λ tells fresh.
    c.compact.ensures.stands tells (second c.self.inside.whole (is_fresh_table c.compact.new.self) fresh)

pub returns-in_err-compact-clause-crash : goal.returns-in_err-compact-clause-crash
returns-in_err-compact-clause-crash g c = λ tells.
    let old = c.args.self.now in
    let inside : Held = record { table = c.self.inside.table; nodes = c.self.inside.nodes; whole = c.self.inside.whole } in
    let is = sound_now old inside c.self.view_is c.self.invariant c.requires.fresh in
    as_compacted g.S.Site.world g.S.Site.moment g.S.Site.left_since old.table old.nodes c.args.site.now (c.requires.stands tells) is c.compact.new.site
    (subst (λ (h : Held). GoesOn g.S.Site.moment g.S.Site.left_since c.args.site.now c.compact.new.site (CompactStep (entries_in h.table))) c.self.view_is (c.compact.ensures.crash tells))

pub returns-clause-fresh : goal.returns-clause-fresh
returns-clause-fresh g c =
    fresh_after c.self.inside.table c.compact.new.self c.args.site.now c.compact.new.site c.self.inside.whole tt
    (subst (λ (h : Held). IsTrue (is_fresh h)) (sym c.self.view_is) c.requires.fresh) c.in_ok-compact.ensures.leaves

pub returns-clause-stands : goal.returns-clause-stands
returns-clause-stands g c = λ tells fresh.
    c.compact.ensures.stands tells (second c.self.inside.whole (is_fresh_table c.compact.new.self) fresh)

pub returns-clause-crash : goal.returns-clause-crash
returns-clause-crash g c = λ tells.
    let old = c.args.self.now in
    let inside : Held = record { table = c.self.inside.table; nodes = c.self.inside.nodes; whole = c.self.inside.whole } in
    let is = sound_now old inside c.self.view_is c.self.invariant c.requires.fresh in
    as_compacted g.S.Site.world g.S.Site.moment g.S.Site.left_since old.table old.nodes c.args.site.now (c.requires.stands tells) is c.compact.new.site
    (subst (λ (h : Held). GoesOn g.S.Site.moment g.S.Site.left_since c.args.site.now c.compact.new.site (CompactStep (entries_in h.table))) c.self.view_is (c.compact.ensures.crash tells))
