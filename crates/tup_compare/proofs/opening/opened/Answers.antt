use Rattle.std.proofs.Common.{inr, ap, sym, subst, ◌∙◌}
use Rattle.tup_stored_graph.specs.Opening.{opened_in}
use Rattle.tup_ledger.specs.Owned.{owned_in}
use Rattle.tup_site.specs.declared.fault.SiteFailed.TheVariants.{Memory}
use Rattle.tup_compare.specs.Holding.{Lists}
use Rattle.tup_compare.specs.Opened.{IsUnopened, StopsOpening}
use Rattle.tup_promise.specs.Cause.{HasCountedCause}
use Rattle.tup_compare.specs.Opened.{JustOpens}
use Rattle.tup_promise.specs.Stopped.{stop_of_graph}
use Rattle.tup_promise.specs.declared.stop.Stop.TheVariants.{Outside}
use Rattle.tup_compare.proofs.Held.{kept_holds}
use Rattle.tup_promise.proofs.Handed.{err_if, err_is}
use Rattle.tup_compare.proofs.Opens.{graph_counts, kept_opens, opening_on, opening_stops, opens_so, unopened}
use Rattle.tup_compare.proofs.opening.opened.Goals as goal

-- ---- it couldn't be opened

pub returns-in_err-graph-clause-holds : goal.returns-in_err-graph-clause-holds
returns-in_err-graph-clause-holds g c = λ tells. kept_holds (g.S.Site.world c.args.site.now) (g.S.Site.world c.open.new.site) (c.open.ensures.keeps tells)

pub returns-in_err-graph-clause-cause : goal.returns-in_err-graph-clause-cause
returns-in_err-graph-clause-cause g c = λ tells.
    let old = g.S.Site.world c.args.site.now in
    let new = g.S.Site.world c.open.new.site in
    let fault = c.in_err-graph.field-0.0 in
    err_if c.from_residual.result (stop_of_graph fault) (IsUnopened old) c.from_residual.ensures.1 (unopened old new fault (c.in_err-graph.ensures.opens tells))

pub returns-in_err-graph-clause-stops : goal.returns-in_err-graph-clause-stops
returns-in_err-graph-clause-stops g c =
    let fault = c.in_err-graph.field-0.0 in
    err_if c.from_residual.result (stop_of_graph fault) StopsOpening c.from_residual.ensures.1 (opening_stops c.open.result fault c.in_err-graph.was c.open.ensures.never_full)

pub returns-in_err-graph-clause-crash : goal.returns-in_err-graph-clause-crash
returns-in_err-graph-clause-crash g c = λ tells. opening_on g.S.Site.moment g.S.Site.left_since c.args.site.now c.open.new.site (c.open.ensures.crash tells)

pub returns-in_err-graph-clause-counted : goal.returns-in_err-graph-clause-counted
returns-in_err-graph-clause-counted g c =
    let fault = c.in_err-graph.field-0.0 in
    let before = g.S.Site.faults c.args.site.now in
    let now = g.S.Site.faults c.open.new.site in
    subst (HasCountedCause before now) (sym (err_is c.from_residual.result (stop_of_graph fault) c.from_residual.ensures.1)) (graph_counts before now c.open.result fault c.in_err-graph.was c.open.ensures.cause)

pub returns-in_err-graph-clause-opens : goal.returns-in_err-graph-clause-opens
returns-in_err-graph-clause-opens g c = λ tells.
    let before = (g.S.Site.world c.args.site.now).store in
    let after = (g.S.Site.world c.open.new.site).store in
    let fault = c.in_err-graph.field-0.0 in
    subst (JustOpens before after) (sym (err_is c.from_residual.result (stop_of_graph fault) c.from_residual.ensures.1)) (opens_so before after fault (kept_opens (g.S.Site.world c.args.site.now) (g.S.Site.world c.open.new.site) (c.open.ensures.keeps tells)) (c.in_err-graph.ensures.opens tells))

-- ---- there was no memory for its paths

pub returns-in_err-owned-clause-opens : goal.returns-in_err-owned-clause-opens
returns-in_err-owned-clause-opens g c = λ tells.
    subst (JustOpens (g.S.Site.world c.args.site.now).store (g.S.Site.world c.open.new.site).store) (sym (err_is c.from_residual-in_err-owned.result (Outside Memory) c.from_residual-in_err-owned.ensures.1))
    (kept_opens (g.S.Site.world c.args.site.now) (g.S.Site.world c.open.new.site) (c.open.ensures.keeps tells))

pub returns-in_err-owned-clause-holds : goal.returns-in_err-owned-clause-holds
returns-in_err-owned-clause-holds g c = λ tells. kept_holds (g.S.Site.world c.args.site.now) (g.S.Site.world c.open.new.site) (c.open.ensures.keeps tells)

pub returns-in_err-owned-clause-cause : goal.returns-in_err-owned-clause-cause
returns-in_err-owned-clause-cause g c = λ tells. err_if c.from_residual-in_err-owned.result (Outside Memory) (IsUnopened (g.S.Site.world c.args.site.now)) c.from_residual-in_err-owned.ensures.1 tt

pub returns-in_err-owned-clause-stops : goal.returns-in_err-owned-clause-stops
returns-in_err-owned-clause-stops g c = err_if c.from_residual-in_err-owned.result (Outside Memory) StopsOpening c.from_residual-in_err-owned.ensures.1 tt

pub returns-in_err-owned-clause-crash : goal.returns-in_err-owned-clause-crash
returns-in_err-owned-clause-crash g c = λ tells. opening_on g.S.Site.moment g.S.Site.left_since c.args.site.now c.open.new.site (c.open.ensures.crash tells)

-- ---- it was opened

pub returns-clause-opens : goal.returns-clause-opens
returns-clause-opens g c = λ tells. let opens = c.in_ok-graph.ensures.opens tells in inr (opened_in c.in_ok-graph.graph, opens.0, opens.1)

pub returns-clause-holds : goal.returns-clause-holds
returns-clause-holds g c = λ tells. kept_holds (g.S.Site.world c.args.site.now) (g.S.Site.world c.open.new.site) (c.open.ensures.keeps tells)

pub returns-clause-crash : goal.returns-clause-crash
returns-clause-crash g c = λ tells. opening_on g.S.Site.moment g.S.Site.left_since c.args.site.now c.open.new.site (c.open.ensures.crash tells)

pub returns-clause-lists : goal.returns-clause-lists
returns-clause-lists g c = λ tells.
    subst (Lists (g.S.Site.world c.open.new.site).store) (sym (c.in_ok-owned.ensures ∙ ap owned_in c.nodes.ensures.value)) (c.in_ok-graph.ensures.lists tells)
