use Rattle.std.proofs.Common.{Err, ap, ◌∙◌}
use Rattle.tup_phases.proofs.Owning.{opening_owns}
use Rattle.tup_phases.specs.Kept.{BlamesSources}
use Rattle.tup_phases.proofs.Blaming.{graph_blames}
use Rattle.tup_table.specs.Entries.{entries_of}
use Rattle.tup_phases.proofs.Within.{opened_back, own_within}
use Rattle.tup_law_site.proofs.Stores.{in_bytes}
use Rattle.tup_ledger.proofs.Opening.{opened_store}
use Rattle.tup_phases.proofs.Keeping.{opened_keeps}
use Rattle.tup_promise.specs.Cause.{HasCountedCause}
use Rattle.tup_promise.specs.Stopped.{stop_of_graph}
use Rattle.tup_promise.specs.Unopened.{Unopened}
use Rattle.tup_promise.proofs.Handed.{err_if, err_so}
use Rattle.tup_phases.specs.Prepared.{StopsSurvey}
use Rattle.tup_phases.proofs.Opening.{readable, refused}
use Rattle.tup_phases.proofs.Stopping.{graph_before, graph_counted}
use Rattle.tup_phases.specs.Room.{FillsStore}
use Rattle.tup_phases.proofs.Filling.{open_fills}
use Rattle.tup_phases.proofs.surveying.opened.Goals as goal

pub returns-in_err-open-clause-unopened : goal.returns-in_err-open-clause-unopened
returns-in_err-open-clause-unopened g c = λ tells log empty.
    let old = g.S.Site.world c.args.site.now in
    let new = g.S.Site.world c.open.new.site in
    let fault = c.in_err-open.field-0.0 in
    err_so c.from_residual.result (stop_of_graph fault) (Unopened old new log) c.from_residual.ensures.1
    (refused old new (c.open.ensures.tree tells) (c.open.ensures.keeps tells) log empty fault (c.in_err-open.ensures.opens tells))

pub returns-in_err-open-clause-stops : goal.returns-in_err-open-clause-stops
returns-in_err-open-clause-stops g c =
    let fault = c.in_err-open.field-0.0 in
    err_if c.from_residual.result (stop_of_graph fault) StopsSurvey c.from_residual.ensures.1 (graph_before fault)

pub returns-in_err-open-clause-counted : goal.returns-in_err-open-clause-counted
returns-in_err-open-clause-counted g c =
    let fault = c.in_err-open.field-0.0 in
    let before = g.S.Site.faults c.args.site.now in
    let now = g.S.Site.faults c.open.new.site in
    err_so c.from_residual.result (stop_of_graph fault) (HasCountedCause before now) c.from_residual.ensures.1 (graph_counted before now c.open.result fault c.in_err-open.was c.open.ensures.cause)

pub returns-clause-unopened : goal.returns-clause-unopened
returns-clause-unopened g c = λ tells log empty.
    readable (g.S.Site.world c.args.site.now) (g.S.Site.world c.open.new.site) c.in_ok-open.field-0 (c.in_ok-open.ensures.opens tells)

-- ---- what it leaves of a site and keeps of it

pub returns-in_err-open-clause-files : goal.returns-in_err-open-clause-files
returns-in_err-open-clause-files g c = λ tells. record { later = (c.open.ensures.crash tells).later; tree = c.open.ensures.tree tells; known = c.open.ensures.known tells }

pub returns-in_err-open-clause-kept : goal.returns-in_err-open-clause-kept
returns-in_err-open-clause-kept g c = λ tells.
    let site_laws = g.met.S.Site in
    let crash = c.open.ensures.crash tells in
    opened_keeps g.S.Site tells site_laws.earlier site_laws.present c.args.site.now c.open.new.site (record { later = crash.later; tree = c.open.ensures.tree tells; known = c.open.ensures.known tells }) crash

pub returns-clause-files : goal.returns-clause-files
returns-clause-files g c = λ tells. record { later = (c.open.ensures.crash tells).later; tree = c.open.ensures.tree tells; known = c.open.ensures.known tells }

pub returns-clause-kept : goal.returns-clause-kept
returns-clause-kept g c = λ tells.
    let site_laws = g.met.S.Site in
    let crash = c.open.ensures.crash tells in
    opened_keeps g.S.Site tells site_laws.earlier site_laws.present c.args.site.now c.open.new.site (record { later = crash.later; tree = c.open.ensures.tree tells; known = c.open.ensures.known tells }) crash

pub returns-clause-stored : goal.returns-clause-stored
returns-clause-stored g c = λ tells.
    let graph = c.in_ok-open.field-0 in
    let bytes = (g.S.Site.world c.args.site.now).store in
    in_bytes graph.nodes bytes (opened_store bytes (g.S.Site.world c.open.new.site).store graph (c.in_ok-open.ensures.opens tells) c.in_ok-open.ensures.graph.1)

-- ---- what stands in the store then stays within what stood there

pub returns-in_err-open-clause-within : goal.returns-in_err-open-clause-within
returns-in_err-open-clause-within g c = λ tells.
    let first = g.S.Site.world c.args.site.now in
    λ graph reads.
    let stored = opened_back first (g.S.Site.world c.open.new.site) (c.open.ensures.keeps tells) graph reads in
    own_within first graph stored (c.flags_are_of_rules.ensures (entries_of stored.commits) graph stored.graph)

pub returns-clause-within : goal.returns-clause-within
returns-clause-within g c = λ tells.
    let first = g.S.Site.world c.args.site.now in
    λ graph reads.
    let stored = opened_back first (g.S.Site.world c.open.new.site) (c.open.ensures.keeps tells) graph reads in
    own_within first graph stored (c.flags_are_of_rules.ensures (entries_of stored.commits) graph stored.graph)

pub returns-in_err-open-clause-blame : goal.returns-in_err-open-clause-blame
returns-in_err-open-clause-blame g c = λ first.
    let fault = c.in_err-open.field-0.0 in
    err_if c.from_residual.result (stop_of_graph fault) (BlamesSources first) c.from_residual.ensures.1 (graph_blames first fault)

pub returns-in_err-open-clause-owns : goal.returns-in_err-open-clause-owns
returns-in_err-open-clause-owns g c = λ tells.
    let site_laws = g.met.S.Site in
    opening_owns g.S.Site tells site_laws.earlier site_laws.present c.args.site.now c.open.new.site (c.open.ensures.crash tells)

pub returns-clause-owns : goal.returns-clause-owns
returns-clause-owns g c = λ tells.
    let site_laws = g.met.S.Site in
    opening_owns g.S.Site tells site_laws.earlier site_laws.present c.args.site.now c.open.new.site (c.open.ensures.crash tells)

-- ---- what a crash may leave then

pub returns-in_err-open-clause-crash : goal.returns-in_err-open-clause-crash
returns-in_err-open-clause-crash g c = λ tells. c.open.ensures.crash tells

pub returns-clause-crash : goal.returns-clause-crash
returns-clause-crash g c = λ tells. c.open.ensures.crash tells

-- ---- what a store lacks room for that is said to be full

pub returns-in_err-open-clause-full : goal.returns-in_err-open-clause-full
returns-in_err-open-clause-full g c = λ w.
    let fault = c.in_err-open.field-0.0 in
    err_if c.from_residual.result (stop_of_graph fault) (FillsStore w) c.from_residual.ensures.1 (open_fills w fault (λ full. c.open.ensures.never_full (c.in_err-open.was ∙ ap Err full)))
