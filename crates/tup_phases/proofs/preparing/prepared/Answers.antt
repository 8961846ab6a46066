use Rattle.std.proofs.Common.{ap, sym, subst, ◌∙◌, Some}
use Rattle.tup_promise.specs.Cause.{HasCountedCause}
use Rattle.tup_promise.specs.Did.{ReadAndRemoved, ReadsWhatIsDue}
use Rattle.tup_promise.specs.Unopened.{Unopened}
use Rattle.tup_promise.specs.declared.log.Log.{Log}
use Rattle.tup_promise.proofs.Handed.{err_if, err_so}
use Rattle.tup_phases.specs.Kept.{BlamesSources}
use Rattle.tup_phases.specs.Prepared.{LogsBefore, StopsBefore}
use Rattle.tup_phases.specs.Spared.{LeavesTree}
use Rattle.tup_phases.proofs.Brought.{brought_on, records_on}
use Rattle.tup_phases.proofs.Keeping.{keeps_same, now_kept, over, trees_both}
use Rattle.tup_phases.proofs.Opening.{stopped_later}
use Rattle.tup_phases.proofs.Stopping.{counted_before, none_both, opened_before, survey_before}
use Rattle.tup_phases.proofs.Telling.{cleared_logs, clearing_did, empty_logs, same_tree, survey_did, tree_on}
use Rattle.tup_phases.proofs.Within.{within_over}
use Rattle.tup_phases.specs.Room.{FillsStore}
use Rattle.tup_phases.proofs.preparing.prepared.Goals as goal

-- ---- it isn't known what is to be done

pub returns-in_err-graph-clause-unopened : goal.returns-in_err-graph-clause-unopened
returns-in_err-graph-clause-unopened g c = λ tells.
    err_so c.from_residual.result c.in_err-graph.field-0.0 (Unopened (g.S.Site.world c.args.site.now) (g.S.Site.world c.surveyed.new.site) c.surveyed.new.log) c.from_residual.ensures.1 (c.in_err-graph.ensures.unopened tells)

pub returns-in_err-graph-clause-stops : goal.returns-in_err-graph-clause-stops
returns-in_err-graph-clause-stops g c =
    err_if c.from_residual.result c.in_err-graph.field-0.0 StopsBefore c.from_residual.ensures.1 (survey_before c.in_err-graph.field-0.0 c.in_err-graph.ensures.stops)

pub returns-in_err-graph-clause-counted : goal.returns-in_err-graph-clause-counted
returns-in_err-graph-clause-counted g c =
    err_so c.from_residual.result c.in_err-graph.field-0.0 (HasCountedCause (g.S.Site.faults c.args.site.now) (g.S.Site.faults c.surveyed.new.site)) c.from_residual.ensures.1 c.in_err-graph.ensures.counted

pub returns-in_err-graph-clause-logged : goal.returns-in_err-graph-clause-logged
returns-in_err-graph-clause-logged g c =
    err_if c.from_residual.result c.in_err-graph.field-0.0 (LogsBefore c.surveyed.new.log) c.from_residual.ensures.1 (empty_logs c.surveyed.new.log c.in_err-graph.field-0.0 c.in_err-graph.ensures.logged)

pub returns-in_err-graph-clause-spares : goal.returns-in_err-graph-clause-spares
returns-in_err-graph-clause-spares g c = λ tells.
    let first = g.S.Site.world c.args.site.now in
    let new = g.S.Site.world c.surveyed.new.site in
    err_if c.from_residual.result c.in_err-graph.field-0.0 (LeavesTree first new) c.from_residual.ensures.1 (same_tree first new c.in_err-graph.field-0.0 (c.surveyed.ensures.files tells).tree)

pub returns-in_err-graph-clause-kept : goal.returns-in_err-graph-clause-kept
returns-in_err-graph-clause-kept g c = λ tells next kept.
    let site_laws = g.met.S.Site in
    now_kept g.S.Site tells site_laws.earlier site_laws.present next c.args.site.now c.surveyed.new.site (c.surveyed.ensures.files tells) (c.surveyed.ensures.kept tells next kept)

pub returns-in_err-graph-clause-crash : goal.returns-in_err-graph-clause-crash
returns-in_err-graph-clause-crash g c = λ tells next kept.
    c.surveyed.ensures.kept tells next kept

pub returns-in_err-graph-clause-known : goal.returns-in_err-graph-clause-known
returns-in_err-graph-clause-known g c = λ tells.
    keeps_same (g.S.Site.known c.args.site.now) (g.S.Site.known c.surveyed.new.site) (c.surveyed.ensures.files tells).known

pub returns-in_err-graph-clause-due : goal.returns-in_err-graph-clause-due
returns-in_err-graph-clause-due g c = λ tells next kept.
    let here = returns-in_err-graph-clause-kept g c tells next kept in
    (here.now.graph, here.now.reads, (c.surveyed.ensures.within tells next kept here.now.graph here.now.reads).due)

pub returns-in_err-graph-clause-states : goal.returns-in_err-graph-clause-states
returns-in_err-graph-clause-states g c = λ tells next kept.
    let here = returns-in_err-graph-clause-kept g c tells next kept in
    (here.now.graph, here.now.reads, (c.surveyed.ensures.within tells next kept here.now.graph here.now.reads).states)

pub returns-in_err-graph-clause-blame : goal.returns-in_err-graph-clause-blame
returns-in_err-graph-clause-blame g c = λ tells next kept.
    err_if c.from_residual.result c.in_err-graph.field-0.0 (BlamesSources (g.S.Site.world c.args.site.now)) c.from_residual.ensures.1 (c.in_err-graph.ensures.blame tells next kept)

pub returns-in_err-graph-clause-owns : goal.returns-in_err-graph-clause-owns
returns-in_err-graph-clause-owns g c = λ tells next kept.
    c.surveyed.ensures.owns tells next kept

-- ---- what no rule makes couldn't be cleared

pub returns-in_err-cleared-clause-unopened : goal.returns-in_err-cleared-clause-unopened
returns-in_err-cleared-clause-unopened g c = λ tells.
    let old = g.S.Site.world c.args.site.now in
    let new = g.S.Site.world c.cleared.new.site in
    let log = c.cleared.new.log in
    err_so c.from_residual-in_err-cleared.result c.in_err-cleared.field-0.0 (Unopened old new log) c.from_residual-in_err-cleared.ensures.1 (stopped_later old new log c.in_err-cleared.field-0.0 (c.in_ok-graph.ensures.unopened tells) c.in_err-cleared.ensures.stops)

pub returns-in_err-cleared-clause-none : goal.returns-in_err-cleared-clause-none
returns-in_err-cleared-clause-none g c =
    none_both c.args.log.now c.surveyed.new.log c.cleared.new.log c.surveyed.ensures.none c.cleared.ensures.none

pub returns-in_err-cleared-clause-stops : goal.returns-in_err-cleared-clause-stops
returns-in_err-cleared-clause-stops g c =
    err_if c.from_residual-in_err-cleared.result c.in_err-cleared.field-0.0 StopsBefore c.from_residual-in_err-cleared.ensures.1 (opened_before c.in_err-cleared.field-0.0 c.in_err-cleared.ensures.stops)

pub returns-in_err-cleared-clause-counted : goal.returns-in_err-cleared-clause-counted
returns-in_err-cleared-clause-counted g c =
    let first = g.S.Site.faults c.args.site.now in
    let before = g.S.Site.faults c.surveyed.new.site in
    let now = g.S.Site.faults c.cleared.new.site in
    err_so c.from_residual-in_err-cleared.result c.in_err-cleared.field-0.0 (HasCountedCause first now) c.from_residual-in_err-cleared.ensures.1 (counted_before first before now (Some c.in_err-cleared.field-0.0) c.in_ok-graph.ensures.counted c.in_err-cleared.ensures.counted)

pub returns-in_err-cleared-clause-logged : goal.returns-in_err-cleared-clause-logged
returns-in_err-cleared-clause-logged g c =
    let log = c.cleared.new.log in
    err_if c.from_residual-in_err-cleared.result c.in_err-cleared.field-0.0 (LogsBefore log) c.from_residual-in_err-cleared.ensures.1
    (cleared_logs log c.in_err-cleared.field-0.0 (ap (λ (l : Log). l.removed) c.in_err-cleared.ensures.told ∙ c.surveyed.ensures.removed ∙ c.requires.removed) c.in_err-cleared.ensures.clears)

pub returns-in_err-cleared-clause-spares : goal.returns-in_err-cleared-clause-spares
returns-in_err-cleared-clause-spares g c = λ tells.
    let first = g.S.Site.world c.args.site.now in
    let before = g.S.Site.world c.surveyed.new.site in
    let new = g.S.Site.world c.cleared.new.site in
    err_if c.from_residual-in_err-cleared.result c.in_err-cleared.field-0.0 (LeavesTree first new) c.from_residual-in_err-cleared.ensures.1 (tree_on first before new c.in_err-cleared.field-0.0 (c.surveyed.ensures.files tells).tree (c.in_err-cleared.ensures.spares tells))

pub returns-in_err-cleared-clause-kept : goal.returns-in_err-cleared-clause-kept
returns-in_err-cleared-clause-kept g c = λ tells next kept.
    let old = c.args.site.now in
    let first = g.S.Site.world old in
    let since = g.S.Site.moment old in
    let asks = (c.in_ok-graph.ensures.brought tells next kept).rules in
    let surveyed = c.surveyed.ensures.kept tells next kept in
    let site_laws = g.met.S.Site in
    c.cleared.ensures.present tells next first since asks surveyed (now_kept g.S.Site tells site_laws.earlier site_laws.present next old c.surveyed.new.site (c.surveyed.ensures.files tells) surveyed)

pub returns-in_err-cleared-clause-crash : goal.returns-in_err-cleared-clause-crash
returns-in_err-cleared-clause-crash g c = λ tells next kept.
    let old = c.args.site.now in
    let first = g.S.Site.world old in
    let since = g.S.Site.moment old in
    let asks = (c.in_ok-graph.ensures.brought tells next kept).rules in
    let surveyed = c.surveyed.ensures.kept tells next kept in
    c.cleared.ensures.kept tells next first since asks surveyed

pub returns-in_err-cleared-clause-known : goal.returns-in_err-cleared-clause-known
returns-in_err-cleared-clause-known g c = λ tells content is.
    c.cleared.ensures.known tells content (keeps_same (g.S.Site.known c.args.site.now) (g.S.Site.known c.surveyed.new.site) (c.surveyed.ensures.files tells).known content is)

pub returns-in_err-cleared-clause-due : goal.returns-in_err-cleared-clause-due
returns-in_err-cleared-clause-due g c = λ tells next kept.
    let old = c.args.site.now in
    let first = g.S.Site.world old in
    let since = g.S.Site.moment old in
    let within = c.cleared.ensures.within tells next first since (c.surveyed.ensures.within tells next kept) (c.surveyed.ensures.kept tells next kept) in
    let here = returns-in_err-cleared-clause-kept g c tells next kept in
    (here.now.graph, here.now.reads, (within here.now.graph here.now.reads).due)

pub returns-in_err-cleared-clause-states : goal.returns-in_err-cleared-clause-states
returns-in_err-cleared-clause-states g c = λ tells next kept.
    let old = c.args.site.now in
    let first = g.S.Site.world old in
    let since = g.S.Site.moment old in
    let within = c.cleared.ensures.within tells next first since (c.surveyed.ensures.within tells next kept) (c.surveyed.ensures.kept tells next kept) in
    let here = returns-in_err-cleared-clause-kept g c tells next kept in
    (here.now.graph, here.now.reads, (within here.now.graph here.now.reads).states)

pub returns-in_err-cleared-clause-owns : goal.returns-in_err-cleared-clause-owns
returns-in_err-cleared-clause-owns g c = λ tells next kept.
    let old = c.args.site.now in
    c.cleared.ensures.owns tells old (g.S.Site.moment old) (c.surveyed.ensures.kept tells next kept).began (c.surveyed.ensures.owns tells next kept)

pub returns-in_err-cleared-clause-blame : goal.returns-in_err-cleared-clause-blame
returns-in_err-cleared-clause-blame g c = λ tells next kept.
    let first = g.S.Site.world c.args.site.now in
    err_if c.from_residual-in_err-cleared.result c.in_err-cleared.field-0.0 (BlamesSources first) c.from_residual-in_err-cleared.ensures.1
    (c.in_err-cleared.ensures.blame tells first (c.in_ok-graph.ensures.brought tells next kept) (c.surveyed.ensures.files tells).tree)

-- ---- all is up to date

pub returns-clause-unopened : goal.returns-clause-unopened
returns-clause-unopened g c = λ tells.
    c.in_ok-graph.ensures.unopened tells

pub returns-clause-none : goal.returns-clause-none
returns-clause-none g c =
    none_both c.args.log.now c.surveyed.new.log c.cleared.new.log c.surveyed.ensures.none c.cleared.ensures.none

pub returns-clause-counted : goal.returns-clause-counted
returns-clause-counted g c =
    c.in_ok-cleared.ensures.counted ∙ c.in_ok-graph.ensures.counted

pub returns-clause-kept : goal.returns-clause-kept
returns-clause-kept g c = λ tells next kept.
    let old = c.args.site.now in
    let first = g.S.Site.world old in
    let since = g.S.Site.moment old in
    let asks = (c.in_ok-graph.ensures.brought tells next kept).rules in
    let surveyed = c.surveyed.ensures.kept tells next kept in
    let site_laws = g.met.S.Site in
    c.cleared.ensures.present tells next first since asks surveyed (now_kept g.S.Site tells site_laws.earlier site_laws.present next old c.surveyed.new.site (c.surveyed.ensures.files tells) surveyed)

pub returns-clause-crash : goal.returns-clause-crash
returns-clause-crash g c = λ tells next kept.
    let old = c.args.site.now in
    let first = g.S.Site.world old in
    let since = g.S.Site.moment old in
    let asks = (c.in_ok-graph.ensures.brought tells next kept).rules in
    let surveyed = c.surveyed.ensures.kept tells next kept in
    c.cleared.ensures.kept tells next first since asks surveyed

pub returns-clause-known : goal.returns-clause-known
returns-clause-known g c = λ tells content is.
    c.cleared.ensures.known tells content (keeps_same (g.S.Site.known c.args.site.now) (g.S.Site.known c.surveyed.new.site) (c.surveyed.ensures.files tells).known content is)

pub returns-clause-due : goal.returns-clause-due
returns-clause-due g c = λ tells next kept.
    let old = c.args.site.now in
    let first = g.S.Site.world old in
    let since = g.S.Site.moment old in
    let within = c.cleared.ensures.within tells next first since (c.surveyed.ensures.within tells next kept) (c.surveyed.ensures.kept tells next kept) in
    let here = returns-clause-kept g c tells next kept in
    (here.now.graph, here.now.reads, (within here.now.graph here.now.reads).due)

pub returns-clause-states : goal.returns-clause-states
returns-clause-states g c = λ tells next kept.
    let old = c.args.site.now in
    let first = g.S.Site.world old in
    let since = g.S.Site.moment old in
    let within = c.cleared.ensures.within tells next first since (c.surveyed.ensures.within tells next kept) (c.surveyed.ensures.kept tells next kept) in
    let here = returns-clause-kept g c tells next kept in
    (here.now.graph, here.now.reads, (within here.now.graph here.now.reads).states)

pub returns-clause-owns : goal.returns-clause-owns
returns-clause-owns g c = λ tells next kept.
    let old = c.args.site.now in
    c.cleared.ensures.owns tells old (g.S.Site.moment old) (c.surveyed.ensures.kept tells next kept).began (c.surveyed.ensures.owns tells next kept)

pub returns-clause-prepared : goal.returns-clause-prepared
returns-clause-prepared g c = λ tells next kept.
    let old = c.args.site.now in
    let first = g.S.Site.world old in
    let since = g.S.Site.moment old in
    let asks = (c.in_ok-graph.ensures.brought tells next kept).rules in
    let surveyed = c.surveyed.ensures.kept tells next kept in
    let it = brought_on first c.in_ok-graph.graph.nodes c.cleared.new.graph.nodes c.in_ok-cleared.ensures.stays (c.in_ok-graph.ensures.brought tells next kept) in
    record {
      over = over g.S.Site next first since c.cleared.new.graph c.cleared.new.site (c.in_ok-cleared.ensures.stands tells) c.in_ok-cleared.ensures.graph (c.cleared.ensures.kept tells next first since asks surveyed);
      kept = returns-clause-kept g c tells next kept;
      created = it.0;
      seen = c.in_ok-cleared.ensures.seen tells;
      made = c.in_ok-cleared.ensures.made;
      read = it.3;
      rules = it.1;
      due = it.2;
    }

pub returns-clause-prepared_states : goal.returns-clause-prepared_states
returns-clause-prepared_states g c = λ tells next kept.
    let old = c.args.site.now in
    let first = g.S.Site.world old in
    let since = g.S.Site.moment old in
    let within = c.cleared.ensures.within tells next first since (c.surveyed.ensures.within tells next kept) (c.surveyed.ensures.kept tells next kept) in
    let site_laws = g.met.S.Site in
    let ready = returns-clause-prepared g c tells next kept in
    (within_over g.S.Site tells site_laws.earlier site_laws.present first next first since c.cleared.new.graph c.cleared.new.site ready.over.stands ready.over.is_graph (record { began = ready.over.began; kept = ready.over.kept }) within).states

pub returns-clause-records : goal.returns-clause-records
returns-clause-records g c = λ tells next kept.
    records_on (g.S.Site.world c.args.site.now) c.in_ok-graph.graph.nodes c.cleared.new.graph.nodes c.in_ok-cleared.ensures.stays (c.in_ok-graph.ensures.brought tells next kept)

-- ---- what a crash may leave of a store that can't be read

pub returns-in_err-graph-clause-closed : goal.returns-in_err-graph-clause-closed
returns-in_err-graph-clause-closed g c = λ tells closed. c.surveyed.ensures.closed tells closed

pub returns-in_err-cleared-clause-closed : goal.returns-in_err-cleared-clause-closed
returns-in_err-cleared-clause-closed g c = λ tells closed. absurd (closed (c.in_ok-graph.ensures.unopened tells))

pub returns-clause-closed : goal.returns-clause-closed
returns-clause-closed g c = λ tells closed. absurd (closed (c.in_ok-graph.ensures.unopened tells))

-- ---- where a file of the user's stands at a path that no rule makes

pub returns-in_err-graph-clause-users : goal.returns-in_err-graph-clause-users
returns-in_err-graph-clause-users g c = λ tells next kept has. (c.surveyed.ensures.files tells).tree

pub returns-in_err-cleared-clause-users : goal.returns-in_err-cleared-clause-users
returns-in_err-cleared-clause-users g c = λ tells next kept has.
    c.cleared.ensures.users tells (g.S.Site.world c.args.site.now) (c.in_ok-graph.ensures.brought tells next kept) (c.surveyed.ensures.files tells).tree has

pub returns-clause-users : goal.returns-clause-users
returns-clause-users g c = λ tells next kept has.
    c.cleared.ensures.users tells (g.S.Site.world c.args.site.now) (c.in_ok-graph.ensures.brought tells next kept) (c.surveyed.ensures.files tells).tree has

pub returns-clause-held : goal.returns-clause-held
returns-clause-held g c = λ tells next kept has.
    c.in_ok-cleared.ensures.held tells (g.S.Site.world c.args.site.now) (c.in_ok-graph.ensures.brought tells next kept) (c.surveyed.ensures.files tells).tree has

pub returns-in_err-graph-clause-trees : goal.returns-in_err-graph-clause-trees
returns-in_err-graph-clause-trees g c = λ tells next kept has. c.surveyed.ensures.trees tells

pub returns-in_err-cleared-clause-trees : goal.returns-in_err-cleared-clause-trees
returns-in_err-cleared-clause-trees g c = λ tells next kept has.
    let site_laws = g.met.S.Site in
    trees_both g.S.Site tells site_laws.earlier site_laws.present c.args.site.now c.surveyed.new.site c.cleared.new.site (c.surveyed.ensures.trees tells)
    (c.cleared.ensures.trees tells (g.S.Site.world c.args.site.now) (c.in_ok-graph.ensures.brought tells next kept) (c.surveyed.ensures.files tells).tree has)

pub returns-clause-trees : goal.returns-clause-trees
returns-clause-trees g c = λ tells next kept has.
    let site_laws = g.met.S.Site in
    trees_both g.S.Site tells site_laws.earlier site_laws.present c.args.site.now c.surveyed.new.site c.cleared.new.site (c.surveyed.ensures.trees tells)
    (c.cleared.ensures.trees tells (g.S.Site.world c.args.site.now) (c.in_ok-graph.ensures.brought tells next kept) (c.surveyed.ensures.files tells).tree has)

-- ---- the limits

pub returns-clause-limits : goal.returns-clause-limits
returns-clause-limits g c = λ tells. c.in_ok-graph.ensures.limits tells

-- ---- which Tupfiles it read, and which files it removed

pub returns-in_err-graph-clause-did : goal.returns-in_err-graph-clause-did
returns-in_err-graph-clause-did g c = λ tells next kept.
    let first = g.S.Site.world c.args.site.now in
    let log = c.surveyed.new.log in
    err_so c.from_residual.result c.in_err-graph.field-0.0 (ReadAndRemoved first log) c.from_residual.ensures.1 (survey_did first log c.in_err-graph.field-0.0 c.in_err-graph.ensures.logged c.in_err-graph.ensures.stops)

pub returns-in_err-cleared-clause-did : goal.returns-in_err-cleared-clause-did
returns-in_err-cleared-clause-did g c = λ tells next kept.
    let first = g.S.Site.world c.args.site.now in
    let log = c.cleared.new.log in
    let read = subst (ReadsWhatIsDue first) (sym c.cleared.ensures.read) (c.in_ok-graph.ensures.reads tells next kept) in
    let none = ap (λ (l : Log). l.removed) c.in_err-cleared.ensures.told ∙ c.surveyed.ensures.removed ∙ c.requires.removed in
    err_so c.from_residual-in_err-cleared.result c.in_err-cleared.field-0.0 (ReadAndRemoved first log) c.from_residual-in_err-cleared.ensures.1 (clearing_did first log c.in_err-cleared.field-0.0 (read, none) c.in_err-cleared.ensures.clears)

pub returns-clause-did : goal.returns-clause-did
returns-clause-did g c = λ tells next kept.
    let first = g.S.Site.world c.args.site.now in (
      subst (ReadsWhatIsDue first) (sym c.cleared.ensures.read) (c.in_ok-graph.ensures.reads tells next kept),
      c.in_ok-cleared.ensures.removes tells first (c.in_ok-graph.ensures.brought tells next kept) (c.surveyed.ensures.files tells).tree,
    )

-- ---- what a store lacks room for that is said to be full

pub returns-in_err-graph-clause-full : goal.returns-in_err-graph-clause-full
returns-in_err-graph-clause-full g c = λ tells next kept.
    err_if c.from_residual.result c.in_err-graph.field-0.0 (FillsStore (g.S.Site.world c.surveyed.new.site)) c.from_residual.ensures.1 (c.in_err-graph.ensures.full tells next kept)

pub returns-in_err-cleared-clause-full : goal.returns-in_err-cleared-clause-full
returns-in_err-cleared-clause-full g c = λ tells next kept.
    err_if c.from_residual-in_err-cleared.result c.in_err-cleared.field-0.0 (FillsStore (g.S.Site.world c.cleared.new.site)) c.from_residual-in_err-cleared.ensures.1 (c.in_err-cleared.ensures.full tells)
