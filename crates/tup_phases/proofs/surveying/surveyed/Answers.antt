use Rattle.std.proofs.Common.{inl, ap, sym, ◌∙◌, Some, subst}
use Rattle.std.specs.FinMap as finite
use Rattle.tup_path.specs.Tree.{Tree}
use Rattle.tup_scan.specs.Cause.{IsWithinLimits}
use Rattle.tup_table.specs.Images.{OpenStep}
use Rattle.tup_graph.specs.Answers.{tup_config}
use Rattle.tup_promise.specs.Cause.{HasCountedCause}
use Rattle.tup_promise.specs.Crashes.{OwnsNoMore}
use Rattle.tup_promise.specs.Unopened.{IsEmptyLog, Unopened}
use Rattle.tup_promise.proofs.Handed.{err_if, err_so}
use Rattle.tup_phases.specs.Kept.{BlamesSources}
use Rattle.tup_phases.specs.Prepared.{StopsSurvey}
use Rattle.tup_phases.proofs.Keeping.{files_both, since_now, trees_both, trees_by}
use Rattle.tup_phases.proofs.Opening.{stopped_later}
use Rattle.tup_phases.proofs.Reading.{noted_since}
use Rattle.tup_phases.proofs.Stopping.{counted_before, reading_opened, reading_surveys}
use Rattle.tup_phases.specs.Room.{FillsStore}
use Rattle.tup_phases.proofs.surveying.surveyed.Goals as goal

-- ---- what was noted is brought

pub brought-requires-clause-config : goal.brought-requires-clause-config
brought-requires-clause-config g c =
    λ tells. c.in_ok-config.ensures.config tells ∙ sym (ap (λ (tree : Tree). finite.get tree tup_config) (c.noted.ensures.files tells).tree)

-- ---- the store couldn't be opened

pub returns-in_err-graph-clause-unopened : goal.returns-in_err-graph-clause-unopened
returns-in_err-graph-clause-unopened g c = λ tells.
    err_so c.from_residual.result c.in_err-graph.field-0.0 (Unopened (g.S.Site.world c.args.site.now) (g.S.Site.world c.opened.new.site) c.args.log.now) c.from_residual.ensures.1
    (c.in_err-graph.ensures.unopened tells c.args.log.now c.requires)

pub returns-in_err-graph-clause-stops : goal.returns-in_err-graph-clause-stops
returns-in_err-graph-clause-stops g c =
    err_if c.from_residual.result c.in_err-graph.field-0.0 StopsSurvey c.from_residual.ensures.1 c.in_err-graph.ensures.stops

pub returns-in_err-graph-clause-counted : goal.returns-in_err-graph-clause-counted
returns-in_err-graph-clause-counted g c =
    err_so c.from_residual.result c.in_err-graph.field-0.0 (HasCountedCause (g.S.Site.faults c.args.site.now) (g.S.Site.faults c.opened.new.site)) c.from_residual.ensures.1
    c.in_err-graph.ensures.counted

pub returns-in_err-graph-clause-logged : goal.returns-in_err-graph-clause-logged
returns-in_err-graph-clause-logged g c =
    err_if c.from_residual.result c.in_err-graph.field-0.0 (λ _. IsEmptyLog c.args.log.now) c.from_residual.ensures.1 c.requires

pub returns-in_err-graph-clause-kept : goal.returns-in_err-graph-clause-kept
returns-in_err-graph-clause-kept g c = λ tells next kept.
    let old = c.args.site.now in
    let first = g.S.Site.world old in
    let since = g.S.Site.moment old in
    c.opened.ensures.kept tells next first since (since_now g.S.Site next old kept)

pub returns-in_err-graph-clause-within : goal.returns-in_err-graph-clause-within
returns-in_err-graph-clause-within g c = λ tells next kept.
    c.opened.ensures.within tells

pub returns-in_err-graph-clause-blame : goal.returns-in_err-graph-clause-blame
returns-in_err-graph-clause-blame g c = λ tells next kept.
    err_if c.from_residual.result c.in_err-graph.field-0.0 (BlamesSources (g.S.Site.world c.args.site.now)) c.from_residual.ensures.1 (c.in_err-graph.ensures.blame (g.S.Site.world c.args.site.now))

pub returns-in_err-graph-clause-owns : goal.returns-in_err-graph-clause-owns
returns-in_err-graph-clause-owns g c = λ tells next kept.
    let old = c.args.site.now in
    let first = g.S.Site.world old in
    let since = g.S.Site.moment old in
    let begun : OwnsNoMore g.S.Site old since old = λ w left. (let it = kept.later w left in (it.graph, it.reads, λ path owned. inl (w, left, (it.graph, it.reads, owned)))) in
    c.opened.ensures.owns tells old since (since_now g.S.Site next old kept).began begun

-- ---- the files couldn't be seen

pub returns-in_err-config-clause-unopened : goal.returns-in_err-config-clause-unopened
returns-in_err-config-clause-unopened g c = λ tells.
    err_so c.from_residual-in_err-config.result c.in_err-config.field-0.0 (Unopened (g.S.Site.world c.args.site.now) (g.S.Site.world c.noted.new.site) c.args.log.now) c.from_residual-in_err-config.ensures.1
    (stopped_later (g.S.Site.world c.args.site.now) (g.S.Site.world c.noted.new.site) c.args.log.now c.in_err-config.field-0.0 (c.in_ok-graph.ensures.unopened tells c.args.log.now c.requires) (reading_opened c.in_err-config.field-0.0 c.in_err-config.ensures.stops))

pub returns-in_err-config-clause-stops : goal.returns-in_err-config-clause-stops
returns-in_err-config-clause-stops g c =
    err_if c.from_residual-in_err-config.result c.in_err-config.field-0.0 StopsSurvey c.from_residual-in_err-config.ensures.1 (reading_surveys c.in_err-config.field-0.0 c.in_err-config.ensures.stops)

pub returns-in_err-config-clause-counted : goal.returns-in_err-config-clause-counted
returns-in_err-config-clause-counted g c =
    err_so c.from_residual-in_err-config.result c.in_err-config.field-0.0 (HasCountedCause (g.S.Site.faults c.args.site.now) (g.S.Site.faults c.noted.new.site)) c.from_residual-in_err-config.ensures.1
    (counted_before (g.S.Site.faults c.args.site.now) (g.S.Site.faults c.opened.new.site) (g.S.Site.faults c.noted.new.site) (Some c.in_err-config.field-0.0) c.in_ok-graph.ensures.counted c.in_err-config.ensures.counted)

pub returns-in_err-config-clause-logged : goal.returns-in_err-config-clause-logged
returns-in_err-config-clause-logged g c =
    err_if c.from_residual-in_err-config.result c.in_err-config.field-0.0 (λ _. IsEmptyLog c.args.log.now) c.from_residual-in_err-config.ensures.1 c.requires

pub returns-in_err-config-clause-files : goal.returns-in_err-config-clause-files
returns-in_err-config-clause-files g c = λ tells.
    files_both g.S.Site c.args.site.now c.opened.new.site c.noted.new.site (c.opened.ensures.files tells) (c.noted.ensures.files tells)

pub returns-in_err-config-clause-kept : goal.returns-in_err-config-clause-kept
returns-in_err-config-clause-kept g c = λ tells next kept.
    let old = c.args.site.now in
    let first = g.S.Site.world old in
    let since = g.S.Site.moment old in
    let opened = c.opened.ensures.kept tells next first since (since_now g.S.Site next old kept) in
    c.noted.ensures.kept tells next first since opened

pub returns-in_err-config-clause-within : goal.returns-in_err-config-clause-within
returns-in_err-config-clause-within g c = λ tells next kept.
    let old = c.args.site.now in
    let first = g.S.Site.world old in
    let since = g.S.Site.moment old in
    let opened = c.opened.ensures.kept tells next first since (since_now g.S.Site next old kept) in
    c.noted.ensures.within tells next first since (c.in_ok-graph.ensures.stored tells) (c.opened.ensures.files tells).tree opened

pub returns-in_err-config-clause-blame : goal.returns-in_err-config-clause-blame
returns-in_err-config-clause-blame g c = λ tells next kept.
    let first = g.S.Site.world c.args.site.now in
    err_if c.from_residual-in_err-config.result c.in_err-config.field-0.0 (BlamesSources first) c.from_residual-in_err-config.ensures.1 (c.in_err-config.ensures.blame tells first (c.opened.ensures.files tells).tree)

pub returns-in_err-config-clause-owns : goal.returns-in_err-config-clause-owns
returns-in_err-config-clause-owns g c = λ tells next kept.
    let old = c.args.site.now in
    let first = g.S.Site.world old in
    let since = g.S.Site.moment old in
    let begun : OwnsNoMore g.S.Site old since old = λ w left. (let it = kept.later w left in (it.graph, it.reads, λ path owned. inl (w, left, (it.graph, it.reads, owned)))) in
    let at_opened = c.opened.ensures.owns tells old since (since_now g.S.Site next old kept).began begun in
    let opened = c.opened.ensures.kept tells next first since (since_now g.S.Site next old kept) in
    c.noted.ensures.owns tells old since opened.began at_opened

-- ---- the Tupfiles couldn't be read

pub returns-in_err-brought-clause-unopened : goal.returns-in_err-brought-clause-unopened
returns-in_err-brought-clause-unopened g c = λ tells.
    err_so c.from_residual-in_err-brought.result c.in_err-brought.field-0.0 (Unopened (g.S.Site.world c.args.site.now) (g.S.Site.world c.brought.new.site) c.brought.new.log) c.from_residual-in_err-brought.ensures.1
    (stopped_later (g.S.Site.world c.args.site.now) (g.S.Site.world c.brought.new.site) c.brought.new.log c.in_err-brought.field-0.0 (c.in_ok-graph.ensures.unopened tells c.args.log.now c.requires) (reading_opened c.in_err-brought.field-0.0 c.in_err-brought.ensures.stops))

pub returns-in_err-brought-clause-stops : goal.returns-in_err-brought-clause-stops
returns-in_err-brought-clause-stops g c =
    err_if c.from_residual-in_err-brought.result c.in_err-brought.field-0.0 StopsSurvey c.from_residual-in_err-brought.ensures.1 (reading_surveys c.in_err-brought.field-0.0 c.in_err-brought.ensures.stops)

pub returns-in_err-brought-clause-counted : goal.returns-in_err-brought-clause-counted
returns-in_err-brought-clause-counted g c =
    err_so c.from_residual-in_err-brought.result c.in_err-brought.field-0.0 (HasCountedCause (g.S.Site.faults c.args.site.now) (g.S.Site.faults c.brought.new.site)) c.from_residual-in_err-brought.ensures.1
    (counted_before (g.S.Site.faults c.args.site.now) (g.S.Site.faults c.noted.new.site) (g.S.Site.faults c.brought.new.site) (Some c.in_err-brought.field-0.0) (c.in_ok-config.ensures.counted ∙ c.in_ok-graph.ensures.counted) c.in_err-brought.ensures.counted)

pub returns-in_err-brought-clause-logged : goal.returns-in_err-brought-clause-logged
returns-in_err-brought-clause-logged g c =
    err_if c.from_residual-in_err-brought.result c.in_err-brought.field-0.0 (λ _. IsEmptyLog c.brought.new.log) c.from_residual-in_err-brought.ensures.1 (subst IsEmptyLog (sym c.in_err-brought.ensures.told) c.requires)

pub returns-in_err-brought-clause-files : goal.returns-in_err-brought-clause-files
returns-in_err-brought-clause-files g c = λ tells.
    let old = c.args.site.now in
    let files = files_both g.S.Site old c.opened.new.site c.noted.new.site (c.opened.ensures.files tells) (c.noted.ensures.files tells) in
    files_both g.S.Site old c.noted.new.site c.brought.new.site files (c.brought.ensures.files tells)

pub returns-in_err-brought-clause-kept : goal.returns-in_err-brought-clause-kept
returns-in_err-brought-clause-kept g c = λ tells next kept.
    let old = c.args.site.now in
    let first = g.S.Site.world old in
    let since = g.S.Site.moment old in
    let opened = c.opened.ensures.kept tells next first since (since_now g.S.Site next old kept) in
    let scanned = c.noted.ensures.kept tells next first since opened in
    let files = files_both g.S.Site old c.opened.new.site c.noted.new.site (c.opened.ensures.files tells) (c.noted.ensures.files tells) in
    let noted =
    noted_since first (g.S.Site.world c.opened.new.site) (g.S.Site.world c.noted.new.site) c.in_ok-graph.graph.nodes c.noted.new.graph.nodes c.in_ok-config.config (c.in_ok-graph.ensures.stored tells) c.in_ok-config.ensures.scanned
    (c.in_ok-config.ensures.config tells) (c.opened.ensures.files tells).tree files.tree in
    c.brought.ensures.kept tells next first since noted scanned

pub returns-in_err-brought-clause-within : goal.returns-in_err-brought-clause-within
returns-in_err-brought-clause-within g c = λ tells next kept.
    let old = c.args.site.now in
    let first = g.S.Site.world old in
    let since = g.S.Site.moment old in
    let opened = c.opened.ensures.kept tells next first since (since_now g.S.Site next old kept) in
    let scanned = c.noted.ensures.kept tells next first since opened in
    let files = files_both g.S.Site old c.opened.new.site c.noted.new.site (c.opened.ensures.files tells) (c.noted.ensures.files tells) in
    let noted =
    noted_since first (g.S.Site.world c.opened.new.site) (g.S.Site.world c.noted.new.site) c.in_ok-graph.graph.nodes c.noted.new.graph.nodes c.in_ok-config.config (c.in_ok-graph.ensures.stored tells) c.in_ok-config.ensures.scanned
    (c.in_ok-config.ensures.config tells) (c.opened.ensures.files tells).tree files.tree in
    c.brought.ensures.within tells next first since noted scanned

pub returns-in_err-brought-clause-blame : goal.returns-in_err-brought-clause-blame
returns-in_err-brought-clause-blame g c = λ tells next kept.
    let old = c.args.site.now in
    let first = g.S.Site.world old in
    let since = g.S.Site.moment old in
    let opened = c.opened.ensures.kept tells next first since (since_now g.S.Site next old kept) in
    let scanned = c.noted.ensures.kept tells next first since opened in
    let files = files_both g.S.Site old c.opened.new.site c.noted.new.site (c.opened.ensures.files tells) (c.noted.ensures.files tells) in
    let noted =
    noted_since first (g.S.Site.world c.opened.new.site) (g.S.Site.world c.noted.new.site) c.in_ok-graph.graph.nodes c.noted.new.graph.nodes c.in_ok-config.config (c.in_ok-graph.ensures.stored tells) c.in_ok-config.ensures.scanned
    (c.in_ok-config.ensures.config tells) (c.opened.ensures.files tells).tree files.tree in
    err_if c.from_residual-in_err-brought.result c.in_err-brought.field-0.0 (BlamesSources first) c.from_residual-in_err-brought.ensures.1 (c.in_err-brought.ensures.blame tells next first since noted scanned)

pub returns-in_err-brought-clause-owns : goal.returns-in_err-brought-clause-owns
returns-in_err-brought-clause-owns g c = λ tells next kept.
    let old = c.args.site.now in
    let first = g.S.Site.world old in
    let since = g.S.Site.moment old in
    let begun : OwnsNoMore g.S.Site old since old = λ w left. (let it = kept.later w left in (it.graph, it.reads, λ path owned. inl (w, left, (it.graph, it.reads, owned)))) in
    let at_opened = c.opened.ensures.owns tells old since (since_now g.S.Site next old kept).began begun in
    let opened = c.opened.ensures.kept tells next first since (since_now g.S.Site next old kept) in
    let at_noted = c.noted.ensures.owns tells old since opened.began at_opened in
    let scanned = c.noted.ensures.kept tells next first since opened in
    let files = files_both g.S.Site old c.opened.new.site c.noted.new.site (c.opened.ensures.files tells) (c.noted.ensures.files tells) in
    let noted =
    noted_since first (g.S.Site.world c.opened.new.site) (g.S.Site.world c.noted.new.site) c.in_ok-graph.graph.nodes c.noted.new.graph.nodes c.in_ok-config.config (c.in_ok-graph.ensures.stored tells) c.in_ok-config.ensures.scanned
    (c.in_ok-config.ensures.config tells) (c.opened.ensures.files tells).tree files.tree in
    c.brought.ensures.owns tells next since old noted scanned at_noted

-- ---- it is known what is to be done

pub returns-clause-unopened : goal.returns-clause-unopened
returns-clause-unopened g c = λ tells.
    c.in_ok-graph.ensures.unopened tells c.args.log.now c.requires

pub returns-clause-counted : goal.returns-clause-counted
returns-clause-counted g c =
    c.in_ok-brought.ensures.counted ∙ c.in_ok-config.ensures.counted ∙ c.in_ok-graph.ensures.counted

pub returns-clause-files : goal.returns-clause-files
returns-clause-files g c = λ tells.
    let old = c.args.site.now in
    let files = files_both g.S.Site old c.opened.new.site c.noted.new.site (c.opened.ensures.files tells) (c.noted.ensures.files tells) in
    files_both g.S.Site old c.noted.new.site c.brought.new.site files (c.brought.ensures.files tells)

pub returns-clause-kept : goal.returns-clause-kept
returns-clause-kept g c = λ tells next kept.
    let old = c.args.site.now in
    let first = g.S.Site.world old in
    let since = g.S.Site.moment old in
    let opened = c.opened.ensures.kept tells next first since (since_now g.S.Site next old kept) in
    let scanned = c.noted.ensures.kept tells next first since opened in
    let files = files_both g.S.Site old c.opened.new.site c.noted.new.site (c.opened.ensures.files tells) (c.noted.ensures.files tells) in
    let noted =
    noted_since first (g.S.Site.world c.opened.new.site) (g.S.Site.world c.noted.new.site) c.in_ok-graph.graph.nodes c.noted.new.graph.nodes c.in_ok-config.config (c.in_ok-graph.ensures.stored tells) c.in_ok-config.ensures.scanned
    (c.in_ok-config.ensures.config tells) (c.opened.ensures.files tells).tree files.tree in
    c.brought.ensures.kept tells next first since noted scanned

pub returns-clause-brought : goal.returns-clause-brought
returns-clause-brought g c = λ tells next kept.
    let old = c.args.site.now in
    let first = g.S.Site.world old in
    let since = g.S.Site.moment old in
    let opened = c.opened.ensures.kept tells next first since (since_now g.S.Site next old kept) in
    let scanned = c.noted.ensures.kept tells next first since opened in
    let files = files_both g.S.Site old c.opened.new.site c.noted.new.site (c.opened.ensures.files tells) (c.noted.ensures.files tells) in
    let noted =
    noted_since first (g.S.Site.world c.opened.new.site) (g.S.Site.world c.noted.new.site) c.in_ok-graph.graph.nodes c.noted.new.graph.nodes c.in_ok-config.config (c.in_ok-graph.ensures.stored tells) c.in_ok-config.ensures.scanned
    (c.in_ok-config.ensures.config tells) (c.opened.ensures.files tells).tree files.tree in
    c.in_ok-brought.ensures.brought tells next first since noted scanned

pub returns-clause-reads : goal.returns-clause-reads
returns-clause-reads g c = λ tells next kept.
    let old = c.args.site.now in
    let first = g.S.Site.world old in
    let since = g.S.Site.moment old in
    let opened = c.opened.ensures.kept tells next first since (since_now g.S.Site next old kept) in
    let scanned = c.noted.ensures.kept tells next first since opened in
    let files = files_both g.S.Site old c.opened.new.site c.noted.new.site (c.opened.ensures.files tells) (c.noted.ensures.files tells) in
    let noted =
    noted_since first (g.S.Site.world c.opened.new.site) (g.S.Site.world c.noted.new.site) c.in_ok-graph.graph.nodes c.noted.new.graph.nodes c.in_ok-config.config (c.in_ok-graph.ensures.stored tells) c.in_ok-config.ensures.scanned
    (c.in_ok-config.ensures.config tells) (c.opened.ensures.files tells).tree files.tree in
    c.in_ok-brought.ensures.reads tells next first since noted scanned c.requires.read

pub returns-clause-within : goal.returns-clause-within
returns-clause-within g c = λ tells next kept.
    let old = c.args.site.now in
    let first = g.S.Site.world old in
    let since = g.S.Site.moment old in
    let opened = c.opened.ensures.kept tells next first since (since_now g.S.Site next old kept) in
    let scanned = c.noted.ensures.kept tells next first since opened in
    let files = files_both g.S.Site old c.opened.new.site c.noted.new.site (c.opened.ensures.files tells) (c.noted.ensures.files tells) in
    let noted =
    noted_since first (g.S.Site.world c.opened.new.site) (g.S.Site.world c.noted.new.site) c.in_ok-graph.graph.nodes c.noted.new.graph.nodes c.in_ok-config.config (c.in_ok-graph.ensures.stored tells) c.in_ok-config.ensures.scanned
    (c.in_ok-config.ensures.config tells) (c.opened.ensures.files tells).tree files.tree in
    c.brought.ensures.within tells next first since noted scanned

pub returns-clause-owns : goal.returns-clause-owns
returns-clause-owns g c = λ tells next kept.
    let old = c.args.site.now in
    let first = g.S.Site.world old in
    let since = g.S.Site.moment old in
    let begun : OwnsNoMore g.S.Site old since old = λ w left. (let it = kept.later w left in (it.graph, it.reads, λ path owned. inl (w, left, (it.graph, it.reads, owned)))) in
    let at_opened = c.opened.ensures.owns tells old since (since_now g.S.Site next old kept).began begun in
    let opened = c.opened.ensures.kept tells next first since (since_now g.S.Site next old kept) in
    let at_noted = c.noted.ensures.owns tells old since opened.began at_opened in
    let scanned = c.noted.ensures.kept tells next first since opened in
    let files = files_both g.S.Site old c.opened.new.site c.noted.new.site (c.opened.ensures.files tells) (c.noted.ensures.files tells) in
    let noted =
    noted_since first (g.S.Site.world c.opened.new.site) (g.S.Site.world c.noted.new.site) c.in_ok-graph.graph.nodes c.noted.new.graph.nodes c.in_ok-config.config (c.in_ok-graph.ensures.stored tells) c.in_ok-config.ensures.scanned
    (c.in_ok-config.ensures.config tells) (c.opened.ensures.files tells).tree files.tree in
    c.brought.ensures.owns tells next since old noted scanned at_noted

-- ---- what a crash may leave of a store that can't be read

pub returns-in_err-graph-clause-closed : goal.returns-in_err-graph-clause-closed
returns-in_err-graph-clause-closed g c = λ tells closed. c.opened.ensures.crash tells

pub returns-in_err-config-clause-closed : goal.returns-in_err-config-clause-closed
returns-in_err-config-clause-closed g c = λ tells closed. absurd (closed (c.in_ok-graph.ensures.unopened tells c.args.log.now c.requires))

pub returns-in_err-brought-clause-closed : goal.returns-in_err-brought-clause-closed
returns-in_err-brought-clause-closed g c = λ tells closed. absurd (closed (c.in_ok-graph.ensures.unopened tells c.args.log.now c.requires))

pub returns-clause-closed : goal.returns-clause-closed
returns-clause-closed g c = λ tells closed. absurd (closed (c.in_ok-graph.ensures.unopened tells c.args.log.now c.requires))

-- ---- what a crash may leave of files

pub returns-in_err-graph-clause-trees : goal.returns-in_err-graph-clause-trees
returns-in_err-graph-clause-trees g c = λ tells.
    let site_laws = g.met.S.Site in
    trees_by g.S.Site tells site_laws.earlier site_laws.present c.args.site.now c.opened.new.site OpenStep (λ v w step. step.tree) (c.opened.ensures.crash tells)

pub returns-in_err-config-clause-trees : goal.returns-in_err-config-clause-trees
returns-in_err-config-clause-trees g c = λ tells.
    let site_laws = g.met.S.Site in
    let opened_on = trees_by g.S.Site tells site_laws.earlier site_laws.present c.args.site.now c.opened.new.site OpenStep (λ v w step. step.tree) (c.opened.ensures.crash tells) in
    trees_both g.S.Site tells site_laws.earlier site_laws.present c.args.site.now c.opened.new.site c.noted.new.site opened_on (c.noted.ensures.trees tells)

pub returns-in_err-brought-clause-trees : goal.returns-in_err-brought-clause-trees
returns-in_err-brought-clause-trees g c = λ tells.
    let site_laws = g.met.S.Site in
    let opened_on = trees_by g.S.Site tells site_laws.earlier site_laws.present c.args.site.now c.opened.new.site OpenStep (λ v w step. step.tree) (c.opened.ensures.crash tells) in
    let noted_on = trees_both g.S.Site tells site_laws.earlier site_laws.present c.args.site.now c.opened.new.site c.noted.new.site opened_on (c.noted.ensures.trees tells) in
    trees_both g.S.Site tells site_laws.earlier site_laws.present c.args.site.now c.noted.new.site c.brought.new.site noted_on (c.brought.ensures.trees tells)

pub returns-clause-trees : goal.returns-clause-trees
returns-clause-trees g c = λ tells.
    let site_laws = g.met.S.Site in
    let opened_on = trees_by g.S.Site tells site_laws.earlier site_laws.present c.args.site.now c.opened.new.site OpenStep (λ v w step. step.tree) (c.opened.ensures.crash tells) in
    let noted_on = trees_both g.S.Site tells site_laws.earlier site_laws.present c.args.site.now c.opened.new.site c.noted.new.site opened_on (c.noted.ensures.trees tells) in
    trees_both g.S.Site tells site_laws.earlier site_laws.present c.args.site.now c.noted.new.site c.brought.new.site noted_on (c.brought.ensures.trees tells)

-- ---- the limits

pub returns-clause-limits : goal.returns-clause-limits
returns-clause-limits g c = λ tells. subst IsWithinLimits (c.opened.ensures.files tells).tree (c.in_ok-config.ensures.limits tells)

-- ---- what a store lacks room for that is said to be full

pub returns-in_err-graph-clause-full : goal.returns-in_err-graph-clause-full
returns-in_err-graph-clause-full g c = λ tells next kept.
    let now = g.S.Site.world c.opened.new.site in
    err_if c.from_residual.result c.in_err-graph.field-0.0 (FillsStore now) c.from_residual.ensures.1 (c.in_err-graph.ensures.full now)

pub returns-in_err-config-clause-full : goal.returns-in_err-config-clause-full
returns-in_err-config-clause-full g c = λ tells next kept.
    err_if c.from_residual-in_err-config.result c.in_err-config.field-0.0 (FillsStore (g.S.Site.world c.noted.new.site)) c.from_residual-in_err-config.ensures.1 (c.in_err-config.ensures.full tells)

pub returns-in_err-brought-clause-full : goal.returns-in_err-brought-clause-full
returns-in_err-brought-clause-full g c = λ tells next kept.
    let old = c.args.site.now in
    let first = g.S.Site.world old in
    let since = g.S.Site.moment old in
    let opened = c.opened.ensures.kept tells next first since (since_now g.S.Site next old kept) in
    let scanned = c.noted.ensures.kept tells next first since opened in
    let files = files_both g.S.Site old c.opened.new.site c.noted.new.site (c.opened.ensures.files tells) (c.noted.ensures.files tells) in
    let noted =
    noted_since first (g.S.Site.world c.opened.new.site) (g.S.Site.world c.noted.new.site) c.in_ok-graph.graph.nodes c.noted.new.graph.nodes c.in_ok-config.config (c.in_ok-graph.ensures.stored tells) c.in_ok-config.ensures.scanned
    (c.in_ok-config.ensures.config tells) (c.opened.ensures.files tells).tree files.tree in
    err_if c.from_residual-in_err-brought.result c.in_err-brought.field-0.0 (FillsStore (g.S.Site.world c.brought.new.site)) c.from_residual-in_err-brought.ensures.1 (c.in_err-brought.ensures.full tells next first since noted scanned)
