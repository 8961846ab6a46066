use Rattle.std.proofs.Common.{◌≡◌, ap, subst, ◌∙◌}
use Rattle.tup_path.specs.Tree.{Tree}
use Rattle.tup_table.specs.Table.{entries_in}
use Rattle.tup_table.proofs.Stands.{stands_on}
use Rattle.tup_graph.specs.Opening.{IsGraphOf}
use Rattle.tup_graph.specs.Transactions.{with_doomed}
use Rattle.tup_stored_graph.specs.Held.{Held}
use Rattle.tup_stale.specs.Cleared.{doomed}
use Rattle.tup_stale.specs.Files.{without, FilesStep}
use Rattle.tup_stale.proofs.Cleared.{doomed_is_fresh, has_room, forget_done}
use Rattle.tup_stale.proofs.Crashes.{stores_now, dooms, removes, forgets}
use Rattle.tup_stale.proofs.clearing.give_up.Goals as goal

pub returns-in_err-doom-clause-crash : goal.returns-in_err-doom-clause-crash
returns-in_err-doom-clause-crash g c = λ tells.
    dooms g.S.Site.moment g.S.Site.left_since c.args.graph.now.nodes c.args.paths.now c.args.files.now (g.S.Site.world c.args.site.now).tree c.args.site.now c.doom.new.site (c.doom.ensures.crash tells)

pub returns-in_err-remove-clause-stands : goal.returns-in_err-remove-clause-stands
returns-in_err-remove-clause-stands g c = λ tells fresh.
    let site_laws = g.met.S.Site in
    let end = c.remove.new.site in
    stands_on g.S.Site.world g.S.Site.moment g.S.Site.left_since c.doom.new.self.table c.doom.new.site end (FilesStep c.args.files.now) (λ v w step. step.store)
    (λ t u w le left. site_laws.earlier end t u w tells le left) (c.remove.ensures.crash tells) (c.remove.ensures.store tells) (c.doom.ensures.stands tells fresh)

pub forget-requires-clause-stands : goal.forget-requires-clause-stands
forget-requires-clause-stands g c = λ tells.
    let site_laws = g.met.S.Site in
    let end = c.remove.new.site in
    let fresh = doomed_is_fresh c.args.graph.now c.doom.new.self c.args.paths.now c.requires.fresh c.in_ok-doom.ensures.leaves.0 in
    stands_on g.S.Site.world g.S.Site.moment g.S.Site.left_since c.doom.new.self.table c.doom.new.site end (FilesStep c.args.files.now) (λ v w step. step.store)
    (λ t u w le left. site_laws.earlier end t u w tells le left) (c.remove.ensures.crash tells) (c.remove.ensures.store tells) (c.doom.ensures.stands tells fresh)

pub returns-in_err-remove-clause-crash : goal.returns-in_err-remove-clause-crash
returns-in_err-remove-clause-crash g c = λ tells.
    let site_laws = g.met.S.Site in
    let mid = c.doom.new.site in
    let old = c.args.graph.now in
    let is : c.doom.new.self ≡ doomed old c.args.paths.now = c.in_ok-doom.ensures.leaves.0 in
    let fresh = doomed_is_fresh old c.doom.new.self c.args.paths.now c.requires.fresh is in
    let nodes_are : c.nodes.result.now ≡ with_doomed old.nodes c.args.paths.now = c.nodes.ensures.value ∙ ap (λ (h : Held). h.nodes) is in
    let graph = subst (IsGraphOf (entries_in c.doom.new.self.table)) nodes_are (c.nodes.ensures.graph fresh) in
    removes g.S.Site.moment g.S.Site.left_since old.nodes c.args.paths.now c.args.files.now (g.S.Site.world c.args.site.now).tree c.args.site.now mid c.remove.new.site
    (λ t u w le left. site_laws.earlier mid t u w tells le left) (c.doom.ensures.crash tells)
    (stores_now g.S.Site.world g.S.Site.moment g.S.Site.left_since c.doom.new.self.table (with_doomed old.nodes c.args.paths.now) mid (c.doom.ensures.stands tells fresh) graph) (c.remove.ensures.crash tells)

pub returns-in_err-forget-clause-crash : goal.returns-in_err-forget-clause-crash
returns-in_err-forget-clause-crash g c = λ tells.
    let site_laws = g.met.S.Site in
    let mid = c.doom.new.site in
    let old = c.args.graph.now in
    let files = c.args.files.now in
    let is : c.doom.new.self ≡ doomed old c.args.paths.now = c.in_ok-doom.ensures.leaves.0 in
    let fresh = doomed_is_fresh old c.doom.new.self c.args.paths.now c.requires.fresh is in
    let nodes_are : c.nodes.result.now ≡ with_doomed old.nodes c.args.paths.now = c.nodes.ensures.value ∙ ap (λ (h : Held). h.nodes) is in
    let graph = subst (IsGraphOf (entries_in c.doom.new.self.table)) nodes_are (c.nodes.ensures.graph fresh) in
    let gone = c.in_ok-remove.ensures.removed tells ∙ ap (λ (t : Tree). without t files) (c.doom.ensures.tree tells) in
    forgets g.S.Site.moment g.S.Site.left_since old.nodes c.args.paths.now files (g.S.Site.world c.args.site.now).tree c.args.site.now mid c.remove.new.site
    (λ t u w le left. site_laws.earlier mid t u w tells le left) (c.doom.ensures.crash tells)
    (stores_now g.S.Site.world g.S.Site.moment g.S.Site.left_since c.doom.new.self.table (with_doomed old.nodes c.args.paths.now) mid (c.doom.ensures.stands tells fresh) graph) (c.remove.ensures.crash tells)
    c.forget.new.site (λ t u w le left. site_laws.earlier c.remove.new.site t u w tells le left) (λ v left. c.in_ok-remove.ensures.durable tells v left ∙ gone)
    c.doom.new.self.nodes (ap (λ (h : Held). h.nodes) is) (c.forget.ensures.crash tells)

pub returns-clause-crash : goal.returns-clause-crash
returns-clause-crash g c = λ tells.
    let site_laws = g.met.S.Site in
    let mid = c.doom.new.site in
    let old = c.args.graph.now in
    let files = c.args.files.now in
    let is : c.doom.new.self ≡ doomed old c.args.paths.now = c.in_ok-doom.ensures.leaves.0 in
    let fresh = doomed_is_fresh old c.doom.new.self c.args.paths.now c.requires.fresh is in
    let nodes_are : c.nodes.result.now ≡ with_doomed old.nodes c.args.paths.now = c.nodes.ensures.value ∙ ap (λ (h : Held). h.nodes) is in
    let graph = subst (IsGraphOf (entries_in c.doom.new.self.table)) nodes_are (c.nodes.ensures.graph fresh) in
    let gone = c.in_ok-remove.ensures.removed tells ∙ ap (λ (t : Tree). without t files) (c.doom.ensures.tree tells) in
    forgets g.S.Site.moment g.S.Site.left_since old.nodes c.args.paths.now files (g.S.Site.world c.args.site.now).tree c.args.site.now mid c.remove.new.site
    (λ t u w le left. site_laws.earlier mid t u w tells le left) (c.doom.ensures.crash tells)
    (stores_now g.S.Site.world g.S.Site.moment g.S.Site.left_since c.doom.new.self.table (with_doomed old.nodes c.args.paths.now) mid (c.doom.ensures.stands tells fresh) graph) (c.remove.ensures.crash tells)
    c.forget.new.site (λ t u w le left. site_laws.earlier c.remove.new.site t u w tells le left) (λ v left. c.in_ok-remove.ensures.durable tells v left ∙ gone)
    c.doom.new.self.nodes (ap (λ (h : Held). h.nodes) is) (c.forget.ensures.crash tells)

pub returns-clause-leaves : goal.returns-clause-leaves
returns-clause-leaves g c =
    let files = c.args.files.now in
    forget_done g.S.Site.tells c.args.paths.now files c.args.graph.now c.forget.new.self (g.S.Site.world c.args.site.now) (g.S.Site.world c.forget.new.site) c.doom.new.self c.in_ok-doom.ensures.leaves.0
    (λ tells. c.forget.ensures.tree tells ∙ c.in_ok-remove.ensures.removed tells ∙ ap (λ (t : Tree). without t files) (c.doom.ensures.tree tells))
    c.remove.new.site c.forget.new.site c.in_ok-forget.field-0 c.in_ok-forget.ensures.leaves (has_room c.doom.result c.in_ok-doom.field-0 c.in_ok-doom.was c.doom.ensures.full) (has_room c.forget.result c.in_ok-forget.field-0 c.in_ok-forget.was c.forget.ensures.full)
