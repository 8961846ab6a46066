use Rattle.std.proofs.Common.{◌≡◌, List, Result, Ok, Err, All, inl, inr, refl, sym, ap, subst, ◌∙◌, arith}
use Rattle.tup_path.specs.Name.{Names}
use Rattle.tup_path.specs.Tree.{Tree}
use Rattle.tup_site.specs.Crash.{GoesOn, NoStep}
use Rattle.tup_site.specs.World.{World}
use Rattle.tup_table.proofs.Going.{nothing_then}
use Rattle.tup_table.proofs.Stands.{stands_on}
use Rattle.tup_graph.specs.Graph.{GraphState}
use Rattle.tup_stale.specs.Crash.{ClearStep}
use Rattle.tup_stale.specs.Unmade.{HasNoUsers, standing, Sees}
use Rattle.tup_stale.specs.declared.fault.StaleFault.{StaleFault}
use Rattle.tup_stale.proofs.Looked.{sees_stopped}
use Rattle.tup_stale.proofs.clearing.clear_paths.Goals as goal

pub returns-in_err-files-clause-stands : goal.returns-in_err-files-clause-stands
returns-in_err-files-clause-stands g c = λ tells fresh.
    let site_laws = g.met.S.Site in
    let end = c.look.new.site in
    stands_on g.S.Site.world g.S.Site.moment g.S.Site.left_since c.args.graph.now.table c.args.site.now end NoStep (λ v w none. absurd none)
    (λ t u w le left. site_laws.earlier end t u w tells le left) (c.look.ensures.crash tells) (ap (λ (w : World). w.store) (c.look.ensures.same tells)) (c.requires.stands tells)

pub give_up-requires-clause-stands : goal.give_up-requires-clause-stands
give_up-requires-clause-stands g c = λ tells.
    let site_laws = g.met.S.Site in
    let end = c.look.new.site in
    stands_on g.S.Site.world g.S.Site.moment g.S.Site.left_since c.args.graph.now.table c.args.site.now end NoStep (λ v w none. absurd none)
    (λ t u w le left. site_laws.earlier end t u w tells le left) (c.look.ensures.crash tells) (ap (λ (w : World). w.store) (c.look.ensures.same tells)) (c.requires.stands tells)

pub returns-in_err-give_up-clause-sees : goal.returns-in_err-give_up-clause-sees
returns-in_err-give_up-clause-sees g c = λ tells.
    let nodes = c.args.graph.now.nodes in
    let tree = (g.S.Site.world c.args.site.now).tree in
    let paths = c.args.paths.now in
    let fault = c.in_err-give_up.field-0.0 in
    let is : c.from_residual-in_err-give_up.result ≡ Err fault = grind arith in
    let none = subst (λ (h : GraphState). All (HasNoUsers h tree) paths) c.nodes.ensures.value (c.in_ok-files.ensures.sees tells).1 in
    subst (λ (r : Result (List Names) StaleFault). Sees nodes tree paths r) (sym is) (sees_stopped nodes tree paths fault c.in_err-give_up.ensures.only none)

pub returns-clause-sees : goal.returns-clause-sees
returns-clause-sees g c = λ tells.
    subst (λ (h : GraphState). Sees h (g.S.Site.world c.args.site.now).tree c.args.paths.now (Ok c.in_ok-files.files)) c.nodes.ensures.value (c.in_ok-files.ensures.sees tells)

pub returns-in_err-give_up-clause-crash : goal.returns-in_err-give_up-clause-crash
returns-in_err-give_up-clause-crash g c = λ tells.
    let site_laws = g.met.S.Site in
    let nodes = c.args.graph.now.nodes in
    let tree = (g.S.Site.world c.args.site.now).tree in
    let paths = c.args.paths.now in
    let mid = c.look.new.site in
    let files_are : c.as_slice.result.now ≡ standing tree paths = c.as_slice.ensures ∙ (c.in_ok-files.ensures.sees tells).0 in
    let same : (g.S.Site.world mid).tree ≡ tree = ap (λ (w : World). w.tree) (c.look.ensures.same tells) in
    nothing_then g.S.Site.moment g.S.Site.left_since c.args.site.now mid c.give_up.new.site (ClearStep nodes paths (standing tree paths) tree) (λ t u w le left. site_laws.earlier mid t u w tells le left)
    (c.look.ensures.crash tells)
    (subst (λ (fs : List Names). GoesOn g.S.Site.moment g.S.Site.left_since mid c.give_up.new.site (ClearStep nodes paths fs tree)) files_are
    (subst (λ (t : Tree). GoesOn g.S.Site.moment g.S.Site.left_since mid c.give_up.new.site (ClearStep nodes paths c.as_slice.result.now t)) same (c.give_up.ensures.crash tells)))

pub returns-clause-crash : goal.returns-clause-crash
returns-clause-crash g c = λ tells.
    let site_laws = g.met.S.Site in
    let nodes = c.args.graph.now.nodes in
    let tree = (g.S.Site.world c.args.site.now).tree in
    let paths = c.args.paths.now in
    let mid = c.look.new.site in
    let files_are : c.as_slice.result.now ≡ standing tree paths = c.as_slice.ensures ∙ (c.in_ok-files.ensures.sees tells).0 in
    let same : (g.S.Site.world mid).tree ≡ tree = ap (λ (w : World). w.tree) (c.look.ensures.same tells) in
    nothing_then g.S.Site.moment g.S.Site.left_since c.args.site.now mid c.give_up.new.site (ClearStep nodes paths (standing tree paths) tree) (λ t u w le left. site_laws.earlier mid t u w tells le left)
    (c.look.ensures.crash tells)
    (subst (λ (fs : List Names). GoesOn g.S.Site.moment g.S.Site.left_since mid c.give_up.new.site (ClearStep nodes paths fs tree)) files_are
    (subst (λ (t : Tree). GoesOn g.S.Site.moment g.S.Site.left_since mid c.give_up.new.site (ClearStep nodes paths c.as_slice.result.now t)) same (c.give_up.ensures.crash tells)))

pub returns-in_err-files-clause-users : goal.returns-in_err-files-clause-users
returns-in_err-files-clause-users g c = λ tells. inr (refl, c.look.ensures.same tells, c.look.ensures.crash tells)

pub returns-in_err-give_up-clause-users : goal.returns-in_err-give_up-clause-users
returns-in_err-give_up-clause-users g c = λ tells.
    inl (subst (λ (h : GraphState). All (HasNoUsers h (g.S.Site.world c.args.site.now).tree) c.args.paths.now) c.nodes.ensures.value (c.in_ok-files.ensures.sees tells).1)

pub returns-clause-users : goal.returns-clause-users
returns-clause-users g c = λ tells.
    inl (subst (λ (h : GraphState). All (HasNoUsers h (g.S.Site.world c.args.site.now).tree) c.args.paths.now) c.nodes.ensures.value (c.in_ok-files.ensures.sees tells).1)
