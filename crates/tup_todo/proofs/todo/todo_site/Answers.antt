use Rattle.std.proofs.Common.{inl, refl, ap, subst, ◌∙◌}
use Rattle.tup_table.specs.Entries.{entries_of}
use Rattle.tup_table.specs.Table.{entries_in}
use Rattle.tup_graph.specs.Opening.{IsGraphOf}
use Rattle.tup_law_site.proofs.Remaining.{has_graph}
use Rattle.tup_law_phases.specs.Language.{tupfiles}
use Rattle.tup_promise.specs.Cause.{HasCountedCause}
use Rattle.tup_promise.specs.Stopped.{no_memory}
use Rattle.tup_promise.proofs.Handed.{err_if, err_so}
use Rattle.tup_phases.specs.Kept.{BlamesSources}
use Rattle.tup_phases.specs.Prepared.{StopsSurvey}
use Rattle.tup_ends.proofs.Again.{due_flagged}
use Rattle.tup_phases.specs.Room.{FillsStore}
use Rattle.tup_phases.proofs.Keeping.{graph_kept, now_kept, over}
use Rattle.tup_phases.proofs.Removing.{removes_these}
use Rattle.tup_phases.proofs.Within.{own_within}
use Rattle.tup_todo.specs.Listing.{due_rules, vanished}
use Rattle.tup_todo.specs.Lists.{GoesOnFromStore}
use Rattle.tup_todo.proofs.Foretold.{asked_still, brought_there, read_still}
use Rattle.tup_todo.proofs.Listed.{vanished_stand}
use Rattle.tup_todo.proofs.todo.todo_site.Goals as goal

-- ---- it isn't known what is to be done

pub returns-in_err-graph-clause-unopened : goal.returns-in_err-graph-clause-unopened
returns-in_err-graph-clause-unopened g c = λ tells.
    err_so c.from_residual.result c.in_err-graph.field-0.0 (GoesOnFromStore (g.S.Site.world c.args.site.now) (g.S.Site.world c.surveyed.new.site)) c.from_residual.ensures.1 (c.surveyed.new.log, c.surveyed.ensures.none.ran ∙ c.new-log.ensures.ran, c.in_err-graph.ensures.unopened tells)

pub returns-in_err-graph-clause-counted : goal.returns-in_err-graph-clause-counted
returns-in_err-graph-clause-counted g c =
    err_so c.from_residual.result c.in_err-graph.field-0.0 (HasCountedCause (g.S.Site.faults c.args.site.now) (g.S.Site.faults c.surveyed.new.site)) c.from_residual.ensures.1 c.in_err-graph.ensures.counted

pub returns-in_err-graph-clause-stops : goal.returns-in_err-graph-clause-stops
returns-in_err-graph-clause-stops g c =
    err_if c.from_residual.result c.in_err-graph.field-0.0 StopsSurvey c.from_residual.ensures.1 c.in_err-graph.ensures.stops

pub returns-in_err-graph-clause-blamed : goal.returns-in_err-graph-clause-blamed
returns-in_err-graph-clause-blamed g c = λ tells next kept.
    err_if c.from_residual.result c.in_err-graph.field-0.0 (BlamesSources (g.S.Site.world c.args.site.now)) c.from_residual.ensures.1 (c.in_err-graph.ensures.blame tells next kept)

pub returns-in_err-graph-clause-files : goal.returns-in_err-graph-clause-files
returns-in_err-graph-clause-files g c = λ tells.
    c.surveyed.ensures.files tells

pub returns-in_err-graph-clause-kept : goal.returns-in_err-graph-clause-kept
returns-in_err-graph-clause-kept g c = λ tells next kept.
    let site_laws = g.met.S.Site in
    now_kept g.S.Site tells site_laws.earlier site_laws.present next c.args.site.now c.surveyed.new.site (c.surveyed.ensures.files tells) (c.surveyed.ensures.kept tells next kept)

pub returns-in_err-graph-clause-sources_and_crashes : goal.returns-in_err-graph-clause-sources_and_crashes
returns-in_err-graph-clause-sources_and_crashes g c = λ tells next kept.
    record { later = (c.surveyed.ensures.kept tells next kept).began; kept = (c.surveyed.ensures.kept tells next kept).kept; owned = c.surveyed.ensures.owns tells next kept }

pub returns-in_err-graph-clause-due : goal.returns-in_err-graph-clause-due
returns-in_err-graph-clause-due g c = λ tells next kept.
    let here = returns-in_err-graph-clause-kept g c tells next kept in
    (here.now.graph, here.now.reads, (c.surveyed.ensures.within tells next kept here.now.graph here.now.reads).due)

pub returns-in_err-graph-clause-states : goal.returns-in_err-graph-clause-states
returns-in_err-graph-clause-states g c = λ tells next kept.
    let here = returns-in_err-graph-clause-kept g c tells next kept in
    c.kept_states_are_states.ensures next (g.S.Site.world c.args.site.now) (g.S.Site.world c.surveyed.new.site) (here.now.graph, here.now.reads, (c.surveyed.ensures.within tells next kept here.now.graph here.now.reads).states)

pub returns-in_err-graph-clause-sources_stay : goal.returns-in_err-graph-clause-sources_stay
returns-in_err-graph-clause-sources_stay g c = λ tells some.
    let crashes = returns-in_err-graph-clause-sources_and_crashes g c tells some.0 some.1 in
    c.kept_sites_keep_sources.ensures some.0 (g.S.Site.known c.surveyed.new.site) c.args.site.now c.surveyed.new.site crashes.later crashes.kept

-- ---- no memory for the files

pub returns-in_err-removes-clause-unopened : goal.returns-in_err-removes-clause-unopened
returns-in_err-removes-clause-unopened g c = λ tells.
    err_so c.from_residual-in_err-removes.result no_memory (GoesOnFromStore (g.S.Site.world c.args.site.now) (g.S.Site.world c.surveyed.new.site)) c.from_residual-in_err-removes.ensures.1 (c.surveyed.new.log, c.surveyed.ensures.none.ran ∙ c.new-log.ensures.ran, inl (c.in_ok-graph.ensures.unopened tells))

pub returns-in_err-removes-clause-counted : goal.returns-in_err-removes-clause-counted
returns-in_err-removes-clause-counted g c =
    err_so c.from_residual-in_err-removes.result no_memory (HasCountedCause (g.S.Site.faults c.args.site.now) (g.S.Site.faults c.surveyed.new.site)) c.from_residual-in_err-removes.ensures.1 c.in_ok-graph.ensures.counted

pub returns-in_err-removes-clause-stops : goal.returns-in_err-removes-clause-stops
returns-in_err-removes-clause-stops g c =
    err_if c.from_residual-in_err-removes.result no_memory StopsSurvey c.from_residual-in_err-removes.ensures.1 tt

pub returns-in_err-removes-clause-blamed : goal.returns-in_err-removes-clause-blamed
returns-in_err-removes-clause-blamed g c = λ tells next kept.
    err_if c.from_residual-in_err-removes.result no_memory (BlamesSources (g.S.Site.world c.args.site.now)) c.from_residual-in_err-removes.ensures.1 tt

pub returns-in_err-removes-clause-files : goal.returns-in_err-removes-clause-files
returns-in_err-removes-clause-files g c = λ tells.
    c.surveyed.ensures.files tells

pub returns-in_err-removes-clause-kept : goal.returns-in_err-removes-clause-kept
returns-in_err-removes-clause-kept g c = λ tells next kept.
    let site_laws = g.met.S.Site in
    now_kept g.S.Site tells site_laws.earlier site_laws.present next c.args.site.now c.surveyed.new.site (c.surveyed.ensures.files tells) (c.surveyed.ensures.kept tells next kept)

pub returns-in_err-removes-clause-sources_and_crashes : goal.returns-in_err-removes-clause-sources_and_crashes
returns-in_err-removes-clause-sources_and_crashes g c = λ tells next kept.
    record { later = (c.surveyed.ensures.kept tells next kept).began; kept = (c.surveyed.ensures.kept tells next kept).kept; owned = c.surveyed.ensures.owns tells next kept }

pub returns-in_err-removes-clause-due : goal.returns-in_err-removes-clause-due
returns-in_err-removes-clause-due g c = λ tells next kept.
    let here = returns-in_err-removes-clause-kept g c tells next kept in
    (here.now.graph, here.now.reads, (c.surveyed.ensures.within tells next kept here.now.graph here.now.reads).due)

pub returns-in_err-removes-clause-states : goal.returns-in_err-removes-clause-states
returns-in_err-removes-clause-states g c = λ tells next kept.
    let here = returns-in_err-removes-clause-kept g c tells next kept in
    c.kept_states_are_states.ensures next (g.S.Site.world c.args.site.now) (g.S.Site.world c.surveyed.new.site) (here.now.graph, here.now.reads, (c.surveyed.ensures.within tells next kept here.now.graph here.now.reads).states)

pub returns-in_err-removes-clause-sources_stay : goal.returns-in_err-removes-clause-sources_stay
returns-in_err-removes-clause-sources_stay g c = λ tells some.
    let crashes = returns-in_err-removes-clause-sources_and_crashes g c tells some.0 some.1 in
    c.kept_sites_keep_sources.ensures some.0 (g.S.Site.known c.surveyed.new.site) c.args.site.now c.surveyed.new.site crashes.later crashes.kept

-- ---- no memory for the rules

pub returns-in_err-runs-clause-unopened : goal.returns-in_err-runs-clause-unopened
returns-in_err-runs-clause-unopened g c = λ tells.
    err_so c.from_residual-in_err-runs.result no_memory (GoesOnFromStore (g.S.Site.world c.args.site.now) (g.S.Site.world c.surveyed.new.site)) c.from_residual-in_err-runs.ensures.1 (c.surveyed.new.log, c.surveyed.ensures.none.ran ∙ c.new-log.ensures.ran, inl (c.in_ok-graph.ensures.unopened tells))

pub returns-in_err-runs-clause-counted : goal.returns-in_err-runs-clause-counted
returns-in_err-runs-clause-counted g c =
    err_so c.from_residual-in_err-runs.result no_memory (HasCountedCause (g.S.Site.faults c.args.site.now) (g.S.Site.faults c.surveyed.new.site)) c.from_residual-in_err-runs.ensures.1 c.in_ok-graph.ensures.counted

pub returns-in_err-runs-clause-stops : goal.returns-in_err-runs-clause-stops
returns-in_err-runs-clause-stops g c =
    err_if c.from_residual-in_err-runs.result no_memory StopsSurvey c.from_residual-in_err-runs.ensures.1 tt

pub returns-in_err-runs-clause-blamed : goal.returns-in_err-runs-clause-blamed
returns-in_err-runs-clause-blamed g c = λ tells next kept.
    err_if c.from_residual-in_err-runs.result no_memory (BlamesSources (g.S.Site.world c.args.site.now)) c.from_residual-in_err-runs.ensures.1 tt

pub returns-in_err-runs-clause-files : goal.returns-in_err-runs-clause-files
returns-in_err-runs-clause-files g c = λ tells.
    c.surveyed.ensures.files tells

pub returns-in_err-runs-clause-kept : goal.returns-in_err-runs-clause-kept
returns-in_err-runs-clause-kept g c = λ tells next kept.
    let site_laws = g.met.S.Site in
    now_kept g.S.Site tells site_laws.earlier site_laws.present next c.args.site.now c.surveyed.new.site (c.surveyed.ensures.files tells) (c.surveyed.ensures.kept tells next kept)

pub returns-in_err-runs-clause-sources_and_crashes : goal.returns-in_err-runs-clause-sources_and_crashes
returns-in_err-runs-clause-sources_and_crashes g c = λ tells next kept.
    record { later = (c.surveyed.ensures.kept tells next kept).began; kept = (c.surveyed.ensures.kept tells next kept).kept; owned = c.surveyed.ensures.owns tells next kept }

pub returns-in_err-runs-clause-due : goal.returns-in_err-runs-clause-due
returns-in_err-runs-clause-due g c = λ tells next kept.
    let here = returns-in_err-runs-clause-kept g c tells next kept in
    (here.now.graph, here.now.reads, (c.surveyed.ensures.within tells next kept here.now.graph here.now.reads).due)

pub returns-in_err-runs-clause-states : goal.returns-in_err-runs-clause-states
returns-in_err-runs-clause-states g c = λ tells next kept.
    let here = returns-in_err-runs-clause-kept g c tells next kept in
    c.kept_states_are_states.ensures next (g.S.Site.world c.args.site.now) (g.S.Site.world c.surveyed.new.site) (here.now.graph, here.now.reads, (c.surveyed.ensures.within tells next kept here.now.graph here.now.reads).states)

pub returns-in_err-runs-clause-sources_stay : goal.returns-in_err-runs-clause-sources_stay
returns-in_err-runs-clause-sources_stay g c = λ tells some.
    let crashes = returns-in_err-runs-clause-sources_and_crashes g c tells some.0 some.1 in
    c.kept_sites_keep_sources.ensures some.0 (g.S.Site.known c.surveyed.new.site) c.args.site.now c.surveyed.new.site crashes.later crashes.kept

-- ---- all is listed

pub returns-clause-unopened : goal.returns-clause-unopened
returns-clause-unopened g c = λ tells.
    (c.surveyed.new.log, c.surveyed.ensures.none.ran ∙ c.new-log.ensures.ran, c.in_ok-graph.ensures.unopened tells)

pub returns-clause-files : goal.returns-clause-files
returns-clause-files g c = λ tells.
    c.surveyed.ensures.files tells

pub returns-clause-kept : goal.returns-clause-kept
returns-clause-kept g c = λ tells next kept.
    let site_laws = g.met.S.Site in
    now_kept g.S.Site tells site_laws.earlier site_laws.present next c.args.site.now c.surveyed.new.site (c.surveyed.ensures.files tells) (c.surveyed.ensures.kept tells next kept)

pub returns-clause-sources_and_crashes : goal.returns-clause-sources_and_crashes
returns-clause-sources_and_crashes g c = λ tells next kept.
    record { later = (c.surveyed.ensures.kept tells next kept).began; kept = (c.surveyed.ensures.kept tells next kept).kept; owned = c.surveyed.ensures.owns tells next kept }

pub returns-clause-due : goal.returns-clause-due
returns-clause-due g c = λ tells next kept.
    let here = returns-clause-kept g c tells next kept in
    (here.now.graph, here.now.reads, (c.surveyed.ensures.within tells next kept here.now.graph here.now.reads).due)

pub returns-clause-states : goal.returns-clause-states
returns-clause-states g c = λ tells next kept.
    let here = returns-clause-kept g c tells next kept in
    c.kept_states_are_states.ensures next (g.S.Site.world c.args.site.now) (g.S.Site.world c.surveyed.new.site) (here.now.graph, here.now.reads, (c.surveyed.ensures.within tells next kept here.now.graph here.now.reads).states)

pub returns-clause-sources_stay : goal.returns-clause-sources_stay
returns-clause-sources_stay g c = λ tells some.
    let crashes = returns-clause-sources_and_crashes g c tells some.0 some.1 in
    c.kept_sites_keep_sources.ensures some.0 (g.S.Site.known c.surveyed.new.site) c.args.site.now c.surveyed.new.site crashes.later crashes.kept

pub returns-clause-lists : goal.returns-clause-lists
returns-clause-lists g c = λ tells next kept.
    let site_laws = g.met.S.Site in
    let old = c.args.site.now in
    let at = c.surveyed.new.site in
    let graph = c.in_ok-graph.graph in
    let first = g.S.Site.world old in
    let since = g.S.Site.moment old in
    let left = g.S.Site.world at in
    let known = g.S.Site.known at in
    let since_then = c.surveyed.ensures.kept tells next kept in
    let stands = c.in_ok-graph.ensures.stands tells in
    let is = subst (IsGraphOf (entries_in graph.table)) c.nodes.ensures.value (c.nodes.ensures.graph c.in_ok-graph.ensures.fresh) in
    let stored = has_graph g.S.Site next tupfiles known first since graph at (over g.S.Site next first since graph at stands is since_then) (λ t u w within there. site_laws.earlier at t u w tells within there) left (site_laws.present at tells) in
    let is_kept = graph_kept g.S.Site tells site_laws.earlier site_laws.present next first since graph at stands is since_then in
    let seen = c.in_ok-graph.ensures.seen tells in
    let brought = c.in_ok-graph.ensures.brought tells next kept in
    let here = own_within left graph.nodes stored (c.flags_are_of_rules.ensures (entries_of stored.commits) graph.nodes stored.graph) in
    let removes_are = c.in_ok-removes.ensures ∙ ap vanished c.nodes.ensures.value ∙ vanished_stand graph.nodes left.tree seen in
    let sources = returns-clause-sources_stay g c tells (next, kept) in
    let same = sources.each left (site_laws.earlier at since (g.S.Site.moment at) left tells sources.later (site_laws.present at tells)) in
    let still = asked_still first left graph.nodes.rules same brought.rules in
    let all_read = read_still first left graph.nodes stored same brought.read in
    let again =
    brought_there next known left graph.nodes is_kept stored brought.created still
    (λ number. (here.due number, due_flagged next known left graph.nodes is_kept (λ path _. seen path) stored number))
    all_read in
    record {
      graph = graph.nodes;
      stored = stored;
      rules = brought.rules;
      still = still;
      due = brought.due;
      again = again.due;
      created = brought.created;
      seen = seen;
      all_read = all_read;
      runs = c.in_ok-runs.ensures ∙ ap due_rules c.nodes-2.ensures.value;
      read = c.in_ok-graph.ensures.reads tells next kept;
      removes = removes_these first graph.nodes left.tree brought (c.surveyed.ensures.files tells).tree _ removes_are;
      goes = removes_these left graph.nodes left.tree again refl _ removes_are;
    }

-- ---- what a crash may leave of a store that can't be read

pub returns-in_err-graph-clause-closed : goal.returns-in_err-graph-clause-closed
returns-in_err-graph-clause-closed g c = λ tells closed. c.surveyed.ensures.closed tells closed

pub returns-in_err-removes-clause-closed : goal.returns-in_err-removes-clause-closed
returns-in_err-removes-clause-closed g c = λ tells closed. c.surveyed.ensures.closed tells closed

pub returns-in_err-runs-clause-closed : goal.returns-in_err-runs-clause-closed
returns-in_err-runs-clause-closed g c = λ tells closed. c.surveyed.ensures.closed tells closed

pub returns-clause-closed : goal.returns-clause-closed
returns-clause-closed g c = λ tells closed. c.surveyed.ensures.closed tells closed

-- ---- what a store lacks room for that is said to be full

pub returns-in_err-graph-clause-full : goal.returns-in_err-graph-clause-full
returns-in_err-graph-clause-full g c = λ tells next kept.
    err_if c.from_residual.result c.in_err-graph.field-0.0 (FillsStore (g.S.Site.world c.surveyed.new.site)) c.from_residual.ensures.1 (c.in_err-graph.ensures.full tells next kept)

pub returns-in_err-removes-clause-full : goal.returns-in_err-removes-clause-full
returns-in_err-removes-clause-full g c = λ tells next kept.
    err_if c.from_residual-in_err-removes.result no_memory (FillsStore (g.S.Site.world c.surveyed.new.site)) c.from_residual-in_err-removes.ensures.1 tt

pub returns-in_err-runs-clause-full : goal.returns-in_err-runs-clause-full
returns-in_err-runs-clause-full g c = λ tells next kept.
    err_if c.from_residual-in_err-runs.result no_memory (FillsStore (g.S.Site.world c.surveyed.new.site)) c.from_residual-in_err-runs.ensures.1 tt
