use Rattle.std.proofs.Common.{◌≡◌, List, [], inr, refl, sym, ap, subst, ◌∙◌, arith}
use Rattle.std.proofs.lemmas.List.{nil_from_length}
use Rattle.tup_path.specs.Name.{Names}
use Rattle.tup_site.specs.Crash.{GoesOn, NoStep}
use Rattle.tup_table.specs.Table.{entries_in}
use Rattle.tup_graph.specs.Opening.{IsGraphOf}
use Rattle.tup_stale.specs.Cleared.{AtLast, Leaves, SparesUsers}
use Rattle.tup_stale.specs.Crash.{ClearStep}
use Rattle.tup_stale.specs.Files.{SameBeside}
use Rattle.tup_stale.specs.Unmade.{unmade, standing}
use Rattle.tup_stale.proofs.Cleared.{nothing_to_clear, all_made_after, made_if_done, fresh_if_done, leaves_beside}
use Rattle.tup_stale.proofs.Crashes.{leaves_since}
use Rattle.tup_stale.proofs.Going.{at_rest}
use Rattle.tup_stale.proofs.clearing.clear.Goals as goal

pub returns-in_err-paths-clause-crash : goal.returns-in_err-paths-clause-crash
returns-in_err-paths-clause-crash g c = λ tells.
    let old = c.args.graph.now in
    let tree = (g.S.Site.world c.args.site.now).tree in
    let site = c.args.site.now in
    let graph = subst (IsGraphOf (entries_in old.table)) c.nodes.ensures.value (c.nodes.ensures.graph c.requires.fresh) in
    leaves_since g.S.Site.world g.S.Site.moment g.S.Site.left_since old.table old.nodes site site (unmade old.nodes) (standing tree (unmade old.nodes)) tree (c.requires.stands tells) graph
    (at_rest g.S.Site.moment g.S.Site.left_since site (ClearStep old.nodes (unmade old.nodes) (standing tree (unmade old.nodes)) tree))

pub returns-then-len-eq0-clause-crash : goal.returns-then-len-eq0-clause-crash
returns-then-len-eq0-clause-crash g c = λ tells.
    let old = c.args.graph.now in
    let tree = (g.S.Site.world c.args.site.now).tree in
    let site = c.args.site.now in
    let graph = subst (IsGraphOf (entries_in old.table)) c.nodes.ensures.value (c.nodes.ensures.graph c.requires.fresh) in
    leaves_since g.S.Site.world g.S.Site.moment g.S.Site.left_since old.table old.nodes site site (unmade old.nodes) (standing tree (unmade old.nodes)) tree (c.requires.stands tells) graph
    (at_rest g.S.Site.moment g.S.Site.left_since site (ClearStep old.nodes (unmade old.nodes) (standing tree (unmade old.nodes)) tree))

pub returns-then-len-eq0-clause-leaves : goal.returns-then-len-eq0-clause-leaves
returns-then-len-eq0-clause-leaves g c =
    let old = c.args.graph.now in
    let world = g.S.Site.world c.args.site.now in
    let tree = world.tree in
    let are = c.in_ok-paths.ensures ∙ ap unmade c.nodes.ensures.value in
    let none : unmade old.nodes ≡ [] = sym are ∙ nil_from_length c.in_ok-paths.paths (omega (arith, c.len.ensures)) in
    subst (λ (ps : List Names). AtLast g.S.Site.tells ps (standing tree ps) old old world world) (sym none) (nothing_to_clear old c.requires.fresh g.S.Site.tells world)

pub returns-then-len-eq0-clause-all_made : goal.returns-then-len-eq0-clause-all_made
returns-then-len-eq0-clause-all_made g c =
    let old = c.args.graph.now in
    let world = g.S.Site.world c.args.site.now in
    let tree = world.tree in
    let are = c.in_ok-paths.ensures ∙ ap unmade c.nodes.ensures.value in
    let none : unmade old.nodes ≡ [] = sym are ∙ nil_from_length c.in_ok-paths.paths (omega (arith, c.len.ensures)) in
    all_made_after old old (subst (λ (ps : List Names). AtLast g.S.Site.tells ps (standing tree ps) old old world world) (sym none) (nothing_to_clear old c.requires.fresh g.S.Site.tells world)).0

pub returns-clause-others : goal.returns-clause-others
returns-clause-others g c = λ tells.
    let old = c.args.graph.now in
    let before = g.S.Site.world c.args.site.now in
    let now = g.S.Site.world c.clear_paths-cleared.new.site in
    let ps = c.as_slice.result.now in
    let are : ps ≡ unmade old.nodes = c.as_slice.ensures ∙ c.in_ok-paths.ensures ∙ ap unmade c.nodes.ensures.value in
    subst (λ (qs : List Names). SameBeside (standing before.tree qs) before.tree now.tree) are
    (leaves_beside ps (standing before.tree ps) old c.clear_paths-cleared.new.graph before now g.S.Site.tells tells c.clear_paths-cleared.result c.clear_paths-cleared.ensures.leaves)

pub returns-clause-all_made : goal.returns-clause-all_made
returns-clause-all_made g c =
    let old = c.args.graph.now in
    let new = c.clear_paths-cleared.new.graph in
    let before = g.S.Site.world c.args.site.now in
    let now = g.S.Site.world c.clear_paths-cleared.new.site in
    let ps = c.as_slice.result.now in
    let are : ps ≡ unmade old.nodes = c.as_slice.ensures ∙ c.in_ok-paths.ensures ∙ ap unmade c.nodes.ensures.value in
    made_if_done g.S.Site.tells (standing before.tree (unmade old.nodes)) old new before now c.clear_paths-cleared.result
    (subst (λ (qs : List Names). Leaves g.S.Site.tells qs (standing before.tree qs) old new before now c.clear_paths-cleared.result) are c.clear_paths-cleared.ensures.leaves)

pub returns-clause-crash : goal.returns-clause-crash
returns-clause-crash g c = λ tells.
    let old = c.args.graph.now in
    let tree = (g.S.Site.world c.args.site.now).tree in
    let site = c.args.site.now in
    let end = c.clear_paths-cleared.new.site in
    let ps = c.as_slice.result.now in
    let are : ps ≡ unmade old.nodes = c.as_slice.ensures ∙ c.in_ok-paths.ensures ∙ ap unmade c.nodes.ensures.value in
    let graph = subst (IsGraphOf (entries_in old.table)) c.nodes.ensures.value (c.nodes.ensures.graph c.requires.fresh) in
    leaves_since g.S.Site.world g.S.Site.moment g.S.Site.left_since old.table old.nodes site end (unmade old.nodes) (standing tree (unmade old.nodes)) tree (c.requires.stands tells) graph
    (subst (λ (qs : List Names). GoesOn g.S.Site.moment g.S.Site.left_since site end (ClearStep old.nodes qs (standing tree qs) tree)) are (c.clear_paths-cleared.ensures.crash tells))

pub returns-in_err-paths-clause-users : goal.returns-in_err-paths-clause-users
returns-in_err-paths-clause-users g c = λ tells. inr (refl, refl, at_rest g.S.Site.moment g.S.Site.left_since c.args.site.now NoStep)

pub returns-then-len-eq0-clause-users : goal.returns-then-len-eq0-clause-users
returns-then-len-eq0-clause-users g c = λ tells. inr (refl, refl, at_rest g.S.Site.moment g.S.Site.left_since c.args.site.now NoStep)

pub returns-clause-users : goal.returns-clause-users
returns-clause-users g c = λ tells.
    let old = c.args.graph.now in
    let are : c.as_slice.result.now ≡ unmade old.nodes = c.as_slice.ensures ∙ c.in_ok-paths.ensures ∙ ap unmade c.nodes.ensures.value in
    subst (λ (qs : List Names). SparesUsers g.S.Site.world g.S.Site.moment g.S.Site.left_since qs old c.clear_paths-cleared.new.graph c.args.site.now c.clear_paths-cleared.new.site) are
    (c.clear_paths-cleared.ensures.users tells)

pub returns-clause-fresh : goal.returns-clause-fresh
returns-clause-fresh g c =
    let old = c.args.graph.now in
    let before = g.S.Site.world c.args.site.now in
    let now = g.S.Site.world c.clear_paths-cleared.new.site in
    let ps = c.as_slice.result.now in
    fresh_if_done g.S.Site.tells ps (standing before.tree ps) old c.clear_paths-cleared.new.graph before now c.clear_paths-cleared.result c.requires.fresh c.clear_paths-cleared.ensures.leaves

-- ---- a graph that is fresh is one

pub returns-in_err-paths-clause-graph : goal.returns-in_err-paths-clause-graph
returns-in_err-paths-clause-graph g c = λ fresh. subst (IsGraphOf (entries_in c.args.graph.now.table)) c.nodes.ensures.value (c.nodes.ensures.graph fresh)

pub returns-then-len-eq0-clause-graph : goal.returns-then-len-eq0-clause-graph
returns-then-len-eq0-clause-graph g c = λ fresh. subst (IsGraphOf (entries_in c.args.graph.now.table)) c.nodes.ensures.value (c.nodes.ensures.graph fresh)

pub returns-clause-graph : goal.returns-clause-graph
returns-clause-graph g c = λ fresh. subst (IsGraphOf (entries_in c.clear_paths-cleared.new.graph.table)) c.nodes-2.ensures.value (c.nodes-2.ensures.graph fresh)
