use Rattle.tup_phases.proofs.Owning.{cleared_owns, stored_over}
use Rattle.tup_phases.specs.Kept.{BlamesSources}
use Rattle.tup_phases.proofs.Blaming.{stale_blames}
use Rattle.tup_stale.specs.Unmade.{standing, unmade}
use Rattle.tup_phases.proofs.Within.{cleared_within, within_over}
use Rattle.std.proofs.Common.{ap, subst, ⊎_elim, ◌∙◌}
use Rattle.tup_site.specs.World.{World}
use Rattle.tup_phases.proofs.Users.{none_met}
use Rattle.tup_phases.proofs.Removing.{removes_these}
use Rattle.tup_table.specs.Table.{entries_in}
use Rattle.tup_graph.specs.Opening.{IsGraphOf}
use Rattle.tup_stored_graph.specs.Held.{Held}
use Rattle.tup_site.specs.Crash.{NoStep}
use Rattle.tup_phases.proofs.Keeping.{cleared_keeps, cleared_present, trees_by}
use Rattle.tup_promise.specs.Cause.{HasCountedCause}
use Rattle.tup_promise.specs.Stopped.{stop_of_stale}
use Rattle.tup_promise.proofs.Handed.{err_if, err_so}
use Rattle.tup_phases.specs.Spared.{LeavesTree}
use Rattle.tup_phases.specs.Prepared.{StopsClearing, StopsOpened}
use Rattle.tup_phases.proofs.Seeing.{seen_cleared}
use Rattle.tup_phases.proofs.Stopping.{stale_counted, stale_opened}
use Rattle.tup_phases.proofs.Telling.{stale_clears, stale_spares}
use Rattle.tup_phases.specs.Room.{FillsStore}
use Rattle.tup_phases.proofs.Filling.{clear_fills}
use Rattle.tup_phases.proofs.preparing.cleared.Goals as goal

pub returns-in_err-log-clause-stops : goal.returns-in_err-log-clause-stops
returns-in_err-log-clause-stops g c =
    let fault = c.in_err-log.field-0.0 in
    err_if c.from_residual.result (stop_of_stale fault) StopsOpened c.from_residual.ensures.1 (stale_opened fault)

pub returns-in_err-log-clause-clears : goal.returns-in_err-log-clause-clears
returns-in_err-log-clause-clears g c =
    let fault = c.in_err-log.field-0.0 in
    err_if c.from_residual.result (stop_of_stale fault) StopsClearing c.from_residual.ensures.1 (stale_clears fault)

pub returns-in_err-log-clause-spares : goal.returns-in_err-log-clause-spares
returns-in_err-log-clause-spares g c = λ tells.
    let fault = c.in_err-log.field-0.0 in
    let old = g.S.Site.world c.args.site.now in
    let new = g.S.Site.world c.clear.new.site in
    err_if c.from_residual.result (stop_of_stale fault) (LeavesTree old new) c.from_residual.ensures.1 (stale_spares g.S.Site.tells _ _ c.args.graph.now c.clear.new.graph old new fault tells c.in_err-log.ensures.leaves)

pub returns-in_err-log-clause-counted : goal.returns-in_err-log-clause-counted
returns-in_err-log-clause-counted g c =
    let fault = c.in_err-log.field-0.0 in
    let before = g.S.Site.faults c.args.site.now in
    let now = g.S.Site.faults c.clear.new.site in
    err_so c.from_residual.result (stop_of_stale fault) (HasCountedCause before now) c.from_residual.ensures.1 (stale_counted before now c.clear.result fault c.in_err-log.was c.clear.ensures.cause c.clear.ensures.large)

pub returns-clause-seen : goal.returns-clause-seen
returns-clause-seen g c = λ tells.
    let leaves = c.in_ok-log.ensures.leaves in
    let old = c.args.graph.now in
    let tree = (g.S.Site.world c.args.site.now).tree in
    seen_cleared old c.clear.new.graph tree (g.S.Site.world c.clear.new.site).tree leaves.0 (leaves.1 tells) (λ path. c.cleared_are_unseen.ensures old.nodes tree path (c.requires.seen tells))

pub returns-clause-counted : goal.returns-clause-counted
returns-clause-counted g c = c.clear.ensures.cause.steady (λ e. cc (c.in_ok-log.was, e))

-- ---- what it leaves of a graph and keeps of a site

pub returns-in_err-log-clause-kept : goal.returns-in_err-log-clause-kept
returns-in_err-log-clause-kept g c = λ tells next first since asks kept.
    let site_laws = g.met.S.Site in
    let graph = c.args.graph.now in
    let is = subst (IsGraphOf (entries_in graph.table)) c.nodes.ensures.value (c.nodes.ensures.graph c.requires.fresh) in
    cleared_keeps g.S.Site tells site_laws.earlier site_laws.present next first since graph c.clear.new.graph c.args.site.now c.clear.new.site (c.requires.stands tells) is (c.requires.seen tells) asks (c.clear.ensures.known tells)
    (c.clear.ensures.crash tells) kept

pub returns-in_err-log-clause-present : goal.returns-in_err-log-clause-present
returns-in_err-log-clause-present g c = λ tells next first since asks kept here.
    let site_laws = g.met.S.Site in
    let graph = c.args.graph.now in
    let is = subst (IsGraphOf (entries_in graph.table)) c.nodes.ensures.value (c.nodes.ensures.graph c.requires.fresh) in
    cleared_present g.S.Site tells site_laws.earlier site_laws.present next first since graph c.clear.new.graph c.args.site.now c.clear.new.site (c.requires.stands tells) is (c.requires.seen tells) asks (c.clear.ensures.known tells)
    (c.clear.ensures.crash tells) kept here (c.clear.ensures.others tells) (c.clear.ensures.users tells)

pub returns-clause-kept : goal.returns-clause-kept
returns-clause-kept g c = λ tells next first since asks kept.
    let site_laws = g.met.S.Site in
    let graph = c.args.graph.now in
    let is = subst (IsGraphOf (entries_in graph.table)) c.nodes.ensures.value (c.nodes.ensures.graph c.requires.fresh) in
    cleared_keeps g.S.Site tells site_laws.earlier site_laws.present next first since graph c.clear.new.graph c.args.site.now c.clear.new.site (c.requires.stands tells) is (c.requires.seen tells) asks (c.clear.ensures.known tells)
    (c.clear.ensures.crash tells) kept

pub returns-clause-present : goal.returns-clause-present
returns-clause-present g c = λ tells next first since asks kept here.
    let site_laws = g.met.S.Site in
    let graph = c.args.graph.now in
    let is = subst (IsGraphOf (entries_in graph.table)) c.nodes.ensures.value (c.nodes.ensures.graph c.requires.fresh) in
    cleared_present g.S.Site tells site_laws.earlier site_laws.present next first since graph c.clear.new.graph c.args.site.now c.clear.new.site (c.requires.stands tells) is (c.requires.seen tells) asks (c.clear.ensures.known tells)
    (c.clear.ensures.crash tells) kept here (c.clear.ensures.others tells) (c.clear.ensures.users tells)

pub returns-clause-stays : goal.returns-clause-stays
returns-clause-stays g c =
    let is = c.in_ok-log.ensures.leaves.0 in
    record { created = ap (λ (h : Held). h.nodes.created) is; readings = ap (λ (h : Held). h.nodes.readings) is; rules = ap (λ (h : Held). h.nodes.rules) is; runs = ap (λ (h : Held). h.nodes.runs) is; flags = ap (λ (h : Held). h.nodes.flags) is }

pub returns-clause-graph : goal.returns-clause-graph
returns-clause-graph g c = c.clear.ensures.graph c.in_ok-log.ensures.fresh

pub returns-in_err-log-clause-within : goal.returns-in_err-log-clause-within
returns-in_err-log-clause-within g c = λ tells next first since holds kept.
    let site_laws = g.met.S.Site in
    let at = c.args.site.now in
    let graph = c.args.graph.now in
    let tree = (g.S.Site.world at).tree in
    let is = subst (IsGraphOf (entries_in graph.table)) c.nodes.ensures.value (c.nodes.ensures.graph c.requires.fresh) in
    cleared_within g.S.Site tells site_laws.earlier site_laws.present first graph.nodes (standing tree (unmade graph.nodes)) tree at c.clear.new.site (c.clear.ensures.crash tells)
    (within_over g.S.Site tells site_laws.earlier site_laws.present first next first since graph at (c.requires.stands tells) is kept holds)

pub returns-clause-within : goal.returns-clause-within
returns-clause-within g c = λ tells next first since holds kept.
    let site_laws = g.met.S.Site in
    let at = c.args.site.now in
    let graph = c.args.graph.now in
    let tree = (g.S.Site.world at).tree in
    let is = subst (IsGraphOf (entries_in graph.table)) c.nodes.ensures.value (c.nodes.ensures.graph c.requires.fresh) in
    cleared_within g.S.Site tells site_laws.earlier site_laws.present first graph.nodes (standing tree (unmade graph.nodes)) tree at c.clear.new.site (c.clear.ensures.crash tells)
    (within_over g.S.Site tells site_laws.earlier site_laws.present first next first since graph at (c.requires.stands tells) is kept holds)

pub returns-in_err-log-clause-blame : goal.returns-in_err-log-clause-blame
returns-in_err-log-clause-blame g c = λ tells first brought same.
    let fault = c.in_err-log.field-0.0 in
    err_if c.from_residual.result (stop_of_stale fault) (BlamesSources first) c.from_residual.ensures.1
    (stale_blames first c.args.graph.now.nodes (g.S.Site.world c.args.site.now).tree fault brought same (c.in_err-log.ensures.sees tells))

pub returns-in_err-log-clause-owns : goal.returns-in_err-log-clause-owns
returns-in_err-log-clause-owns g c = λ tells begun since within owns.
    let site_laws = g.met.S.Site in
    let at = c.args.site.now in
    let graph = c.args.graph.now in
    let tree = (g.S.Site.world at).tree in
    let is = subst (IsGraphOf (entries_in graph.table)) c.nodes.ensures.value (c.nodes.ensures.graph c.requires.fresh) in
    let stored = stored_over g.S.Site tells site_laws.earlier site_laws.present graph at (c.requires.stands tells) is in
    cleared_owns g.S.Site tells site_laws.earlier site_laws.present begun since at c.clear.new.site within owns graph.nodes stored (standing tree (unmade graph.nodes)) tree (c.clear.ensures.crash tells)

pub returns-clause-owns : goal.returns-clause-owns
returns-clause-owns g c = λ tells begun since within owns.
    let site_laws = g.met.S.Site in
    let at = c.args.site.now in
    let graph = c.args.graph.now in
    let tree = (g.S.Site.world at).tree in
    let is = subst (IsGraphOf (entries_in graph.table)) c.nodes.ensures.value (c.nodes.ensures.graph c.requires.fresh) in
    let stored = stored_over g.S.Site tells site_laws.earlier site_laws.present graph at (c.requires.stands tells) is in
    cleared_owns g.S.Site tells site_laws.earlier site_laws.present begun since at c.clear.new.site within owns graph.nodes stored (standing tree (unmade graph.nodes)) tree (c.clear.ensures.crash tells)

-- ---- which files it removed

pub returns-clause-removes : goal.returns-clause-removes
returns-clause-removes g c = λ tells first brought same. removes_these first c.args.graph.now.nodes (g.S.Site.world c.args.site.now).tree brought same _ (c.in_ok-log.ensures.sees tells).0

-- ---- where a file of the user's stands at such a path

pub returns-clause-held : goal.returns-clause-held
returns-clause-held g c = λ tells first brought same has. none_met first c.args.graph.now.nodes (g.S.Site.world c.args.site.now).tree brought same has (c.in_ok-log.ensures.sees tells).1

pub returns-in_err-log-clause-users : goal.returns-in_err-log-clause-users
returns-in_err-log-clause-users g c = λ tells first brought same has.
    ⊎_elim (λ none. absurd (none_met first c.args.graph.now.nodes (g.S.Site.world c.args.site.now).tree brought same has none)) (λ all. ap (λ (w : World). w.tree) all.1 ∙ same) (c.clear.ensures.users tells)

pub returns-clause-users : goal.returns-clause-users
returns-clause-users g c = λ tells first brought same has.
    ⊎_elim (λ none. absurd (none_met first c.args.graph.now.nodes (g.S.Site.world c.args.site.now).tree brought same has none)) (λ all. ap (λ (w : World). w.tree) all.1 ∙ same) (c.clear.ensures.users tells)

pub returns-in_err-log-clause-trees : goal.returns-in_err-log-clause-trees
returns-in_err-log-clause-trees g c = λ tells first brought same has.
    let site_laws = g.met.S.Site in
    ⊎_elim (λ none. absurd (none_met first c.args.graph.now.nodes (g.S.Site.world c.args.site.now).tree brought same has none))
    (λ all. trees_by g.S.Site tells site_laws.earlier site_laws.present c.args.site.now c.clear.new.site NoStep (λ v w none. absurd none) all.2) (c.clear.ensures.users tells)

pub returns-clause-trees : goal.returns-clause-trees
returns-clause-trees g c = λ tells first brought same has.
    let site_laws = g.met.S.Site in
    ⊎_elim (λ none. absurd (none_met first c.args.graph.now.nodes (g.S.Site.world c.args.site.now).tree brought same has none))
    (λ all. trees_by g.S.Site tells site_laws.earlier site_laws.present c.args.site.now c.clear.new.site NoStep (λ v w none. absurd none) all.2) (c.clear.ensures.users tells)

-- ---- what a store lacks room for that is said to be full

pub returns-in_err-log-clause-full : goal.returns-in_err-log-clause-full
returns-in_err-log-clause-full g c = λ tells.
    let fault = c.in_err-log.field-0.0 in
    let at = c.args.site.now in
    let graph = c.args.graph.now in
    let is = subst (IsGraphOf (entries_in graph.table)) c.nodes.ensures.value (c.nodes.ensures.graph c.requires.fresh) in
    err_if c.from_residual.result (stop_of_stale fault) (FillsStore (g.S.Site.world c.clear.new.site)) c.from_residual.ensures.1
    (clear_fills g.S.Site tells graph c.clear.new.graph at c.clear.new.site (standing (g.S.Site.world at).tree (unmade graph.nodes)) c.requires.fresh (c.requires.stands tells) is (c.clear.ensures.stands tells) c.clear.ensures.graph fault
    c.in_err-log.ensures.leaves)
