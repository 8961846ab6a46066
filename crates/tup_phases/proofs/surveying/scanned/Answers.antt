use Rattle.std.proofs.Common.{◌≤◌, inl, is_some, arith, ap, sym, subst, ◌∙◌, Some}
use Rattle.tup_scan.specs.Seen.{IsSeen}
use Rattle.tup_path.specs.Order.{by_names}
use Rattle.tup_graph.specs.declared.owned.Owned.{Owned}
use Rattle.tup_phases.proofs.Owning.{noted_owns, own_here, read_owns, stored_over}
use Rattle.tup_phases.specs.Kept.{BlamesSources}
use Rattle.tup_phases.proofs.Blaming.{graph_blames, scan_blames}
use Rattle.tup_graph.specs.Scan.{IsScanned}
use Rattle.tup_site.specs.Crash.{NoStep}
use Rattle.tup_commit.specs.Crash.{NoteStep}
use Rattle.tup_phases.proofs.Keeping.{first_kept, files_both, files_read, noted_keeps, since_read, trees_both, trees_by}
use Rattle.tup_law_phases.proofs.Seen.{config_known}
use Rattle.tup_phases.proofs.Within.{noted_within, over_within, own_within, scan_within}
use Rattle.tup_table.specs.Table.{entries_in}
use Rattle.tup_graph.specs.Opening.{IsGraphOf}
use Rattle.std.specs.FinMap as finite
use Rattle.tup_graph.specs.Answers.{tup_config}
use Rattle.tup_site.specs.World.{World}
use Rattle.tup_scan_diff.specs.Edits.{AreScanEdits}
use Rattle.tup_promise.specs.Cause.{HasCountedCause}
use Rattle.tup_promise.specs.Stopped.{stop_of_graph, stop_of_scan}
use Rattle.tup_promise.proofs.Handed.{err_if, err_so}
use Rattle.tup_phases.specs.Prepared.{StopsReading}
use Rattle.tup_phases.proofs.Seeing.{seen_again}
use Rattle.tup_phases.proofs.Stopping.{counted_before, graph_counted, note_opened, scan_counted, scan_opened}
use Rattle.tup_phases.specs.Room.{FillsStore}
use Rattle.tup_phases.proofs.Filling.{note_fills, scan_fills}
use Rattle.tup_phases.proofs.surveying.scanned.Goals as goal

-- ---- the scan failed

pub returns-in_err-seen-clause-stops : goal.returns-in_err-seen-clause-stops
returns-in_err-seen-clause-stops g c =
    let fault = c.in_err-seen.field-0.0 in
    err_if c.from_residual.result (stop_of_scan fault) StopsReading c.from_residual.ensures.1 (scan_opened fault)

pub returns-in_err-seen-clause-counted : goal.returns-in_err-seen-clause-counted
returns-in_err-seen-clause-counted g c =
    let fault = c.in_err-seen.field-0.0 in
    let before = g.S.Site.faults c.args.site.now in
    let now = g.S.Site.faults c.scan_by.new.site in
    err_so c.from_residual.result (stop_of_scan fault) (HasCountedCause before now) c.from_residual.ensures.1 (scan_counted before now c.scan_by.result fault c.in_err-seen.was c.scan_by.ensures.cause c.scan_by.ensures.above)

-- ---- what it found wasn't noted

pub note_scan-requires-clause-stands : goal.note_scan-requires-clause-stands
note_scan-requires-clause-stands g c = λ tells.
    c.reads_keep_graphs.ensures c.args.graph.now c.scan_by.new.site tells (c.scan_by.ensures.same tells) (c.scan_by.ensures.crash tells) (c.requires.stands tells)

pub returns-in_err-note_scan-clause-stops : goal.returns-in_err-note_scan-clause-stops
returns-in_err-note_scan-clause-stops g c =
    let fault = c.in_err-note_scan.field-0.0 in
    let seen = c.in_ok-seen.seen in
    let old = c.args.graph.now in
    err_if c.from_residual-in_err-note_scan.result (stop_of_graph fault) StopsReading c.from_residual-in_err-note_scan.ensures.1
    (note_opened (AreScanEdits old.nodes seen.files seen.config) old c.note_scan.new.graph c.scan_by.new.site c.note_scan.new.site c.note_scan.result fault c.in_err-note_scan.was c.note_scan.ensures.notes)

pub returns-in_err-note_scan-clause-counted : goal.returns-in_err-note_scan-clause-counted
returns-in_err-note_scan-clause-counted g c =
    let fault = c.in_err-note_scan.field-0.0 in
    let first = g.S.Site.faults c.args.site.now in
    let before = g.S.Site.faults c.scan_by.new.site in
    let now = g.S.Site.faults c.note_scan.new.site in
    let same = c.scan_by.ensures.cause.steady (λ e. cc (c.in_ok-seen.was, e)) in
    err_so c.from_residual-in_err-note_scan.result (stop_of_graph fault) (HasCountedCause first now) c.from_residual-in_err-note_scan.ensures.1
    (counted_before first before now (Some (stop_of_graph fault)) same (graph_counted before now c.note_scan.result fault c.in_err-note_scan.was c.note_scan.ensures.cause))

-- ---- all was noted

pub returns-clause-seen : goal.returns-clause-seen
returns-clause-seen g c = λ tells.
    let seen = c.in_ok-seen.seen in
    let old = g.S.Site.world c.args.site.now in
    let new = c.note_scan.new.graph.nodes in
    let same = c.note_scan.ensures.tree tells ∙ ap (λ (w : World). w.tree) (c.scan_by.ensures.same tells) in
    seen_again new old.tree (g.S.Site.world c.note_scan.new.site).tree same
    (λ path. c.scans_see.ensures c.args.graph.now.nodes new old.tree seen path (c.in_ok-seen.ensures.seen tells) c.in_ok-note_scan.ensures.scanned)

pub returns-clause-counted : goal.returns-clause-counted
returns-clause-counted g c =
    c.note_scan.ensures.cause.steady (λ e. cc (c.in_ok-note_scan.was, e)) ∙ c.scan_by.ensures.cause.steady (λ e. cc (c.in_ok-seen.was, e))

-- ---- what it leaves of a site and keeps of it

pub returns-in_err-seen-clause-files : goal.returns-in_err-seen-clause-files
returns-in_err-seen-clause-files g c = λ tells. files_read g.S.Site c.args.site.now c.scan_by.new.site (c.scan_by.ensures.same tells) (c.scan_by.ensures.crash tells) (c.scan_by.ensures.known tells)

pub returns-in_err-seen-clause-kept : goal.returns-in_err-seen-clause-kept
returns-in_err-seen-clause-kept g c = λ tells next first since kept.
    let crash = c.scan_by.ensures.crash tells in
    since_read g.S.Site next first since c.args.site.now c.scan_by.new.site (files_read g.S.Site c.args.site.now c.scan_by.new.site (c.scan_by.ensures.same tells) crash (c.scan_by.ensures.known tells)) crash kept

pub returns-in_err-note_scan-clause-files : goal.returns-in_err-note_scan-clause-files
returns-in_err-note_scan-clause-files g c = λ tells.
    files_both g.S.Site c.args.site.now c.scan_by.new.site c.note_scan.new.site
    (files_read g.S.Site c.args.site.now c.scan_by.new.site (c.scan_by.ensures.same tells) (c.scan_by.ensures.crash tells) (c.scan_by.ensures.known tells))
    (record { later = (c.note_scan.ensures.crash tells).on.later; tree = c.note_scan.ensures.tree tells; known = c.note_scan.ensures.known tells })

pub returns-in_err-note_scan-clause-kept : goal.returns-in_err-note_scan-clause-kept
returns-in_err-note_scan-clause-kept g c = λ tells next first since kept.
    let site_laws = g.met.S.Site in
    let old = c.args.site.now in
    let mid = c.scan_by.new.site in
    let graph = c.args.graph.now in
    let seen = c.in_ok-seen.seen in
    let crash = c.scan_by.ensures.crash tells in
    let same = c.scan_by.ensures.same tells in
    let config = (c.in_ok-seen.ensures.seen tells).config ∙ sym (ap (λ (w : World). finite.get w.tree tup_config) same) in
    noted_keeps g.S.Site tells site_laws.earlier site_laws.present graph mid c.note_scan.new.site seen.files seen.config
    (record { later = (c.note_scan.ensures.crash tells).on.later; tree = c.note_scan.ensures.tree tells; known = c.note_scan.ensures.known tells })
    (c.reads_keep_graphs.ensures graph mid tells same crash (c.requires.stands tells)) (subst (IsGraphOf (entries_in graph.table)) c.nodes.ensures.value (c.nodes.ensures.graph c.requires.fresh))
    (config_known (g.S.Site.known mid) (g.S.Site.world mid).tree seen.config (site_laws.knows_tree mid tells) config) (c.note_scan.ensures.crash tells) next first since
    (since_read g.S.Site next first since old mid (files_read g.S.Site old mid same crash (c.scan_by.ensures.known tells)) crash kept)

pub returns-clause-files : goal.returns-clause-files
returns-clause-files g c = λ tells.
    files_both g.S.Site c.args.site.now c.scan_by.new.site c.note_scan.new.site
    (files_read g.S.Site c.args.site.now c.scan_by.new.site (c.scan_by.ensures.same tells) (c.scan_by.ensures.crash tells) (c.scan_by.ensures.known tells))
    (record { later = (c.note_scan.ensures.crash tells).on.later; tree = c.note_scan.ensures.tree tells; known = c.note_scan.ensures.known tells })

pub returns-clause-kept : goal.returns-clause-kept
returns-clause-kept g c = λ tells next first since kept.
    let site_laws = g.met.S.Site in
    let old = c.args.site.now in
    let mid = c.scan_by.new.site in
    let graph = c.args.graph.now in
    let seen = c.in_ok-seen.seen in
    let crash = c.scan_by.ensures.crash tells in
    let same = c.scan_by.ensures.same tells in
    let config = (c.in_ok-seen.ensures.seen tells).config ∙ sym (ap (λ (w : World). finite.get w.tree tup_config) same) in
    noted_keeps g.S.Site tells site_laws.earlier site_laws.present graph mid c.note_scan.new.site seen.files seen.config
    (record { later = (c.note_scan.ensures.crash tells).on.later; tree = c.note_scan.ensures.tree tells; known = c.note_scan.ensures.known tells })
    (c.reads_keep_graphs.ensures graph mid tells same crash (c.requires.stands tells)) (subst (IsGraphOf (entries_in graph.table)) c.nodes.ensures.value (c.nodes.ensures.graph c.requires.fresh))
    (config_known (g.S.Site.known mid) (g.S.Site.world mid).tree seen.config (site_laws.knows_tree mid tells) config) (c.note_scan.ensures.crash tells) next first since
    (since_read g.S.Site next first since old mid (files_read g.S.Site old mid same crash (c.scan_by.ensures.known tells)) crash kept)

pub returns-clause-config : goal.returns-clause-config
returns-clause-config g c = λ tells. (c.in_ok-seen.ensures.seen tells).config

pub returns-clause-scanned : goal.returns-clause-scanned
returns-clause-scanned g c = (c.in_ok-seen.seen.files, c.in_ok-note_scan.ensures.scanned)

-- ---- what stands in the store then stays within what a world had

pub returns-in_err-seen-clause-within : goal.returns-in_err-seen-clause-within
returns-in_err-seen-clause-within g c = λ tells next first since stored tree_is kept.
    let site_laws = g.met.S.Site in
    let old = c.args.site.now in
    let mid = c.scan_by.new.site in
    let graph = c.args.graph.now in
    let crash = c.scan_by.ensures.crash tells in
    let same = c.scan_by.ensures.same tells in
    let is = subst (IsGraphOf (entries_in graph.table)) c.nodes.ensures.value (c.nodes.ensures.graph c.requires.fresh) in
    let flags = c.flags_are_of_rules.ensures (entries_in graph.table) graph.nodes is in
    over_within g.S.Site tells site_laws.earlier site_laws.present first next first since graph mid (c.reads_keep_graphs.ensures graph mid tells same crash (c.requires.stands tells)) is
    (since_read g.S.Site next first since old mid (files_read g.S.Site old mid same crash (c.scan_by.ensures.known tells)) crash kept) (own_within first graph.nodes stored flags)

pub returns-in_err-note_scan-clause-within : goal.returns-in_err-note_scan-clause-within
returns-in_err-note_scan-clause-within g c = λ tells next first since stored tree_is kept.
    let site_laws = g.met.S.Site in
    let old = c.args.site.now in
    let mid = c.scan_by.new.site in
    let graph = c.args.graph.now in
    let crash = c.scan_by.ensures.crash tells in
    let same = c.scan_by.ensures.same tells in
    let is = subst (IsGraphOf (entries_in graph.table)) c.nodes.ensures.value (c.nodes.ensures.graph c.requires.fresh) in
    let flags = c.flags_are_of_rules.ensures (entries_in graph.table) graph.nodes is in
    let seen = c.in_ok-seen.seen in
    let tree = (g.S.Site.world old).tree in
    let was_kept = first_kept g.S.Site tells site_laws.earlier site_laws.present next first since graph old (c.requires.stands tells) is kept graph.nodes stored in
    noted_within g.S.Site tells site_laws.earlier site_laws.present first graph.nodes (IsScanned graph.nodes seen.files seen.config) mid c.note_scan.new.site (c.note_scan.ensures.crash tells) (own_within first graph.nodes stored flags)
    (λ new scanned. scan_within next (g.S.Site.known old) first graph.nodes new tree stored tree_is was_kept flags seen.config (seen.files, scanned) (λ path. c.scans_see.ensures graph.nodes new tree seen path (c.in_ok-seen.ensures.seen tells) scanned))

pub returns-clause-within : goal.returns-clause-within
returns-clause-within g c = λ tells next first since stored tree_is kept.
    let site_laws = g.met.S.Site in
    let old = c.args.site.now in
    let mid = c.scan_by.new.site in
    let graph = c.args.graph.now in
    let crash = c.scan_by.ensures.crash tells in
    let same = c.scan_by.ensures.same tells in
    let is = subst (IsGraphOf (entries_in graph.table)) c.nodes.ensures.value (c.nodes.ensures.graph c.requires.fresh) in
    let flags = c.flags_are_of_rules.ensures (entries_in graph.table) graph.nodes is in
    let seen = c.in_ok-seen.seen in
    let tree = (g.S.Site.world old).tree in
    let was_kept = first_kept g.S.Site tells site_laws.earlier site_laws.present next first since graph old (c.requires.stands tells) is kept graph.nodes stored in
    noted_within g.S.Site tells site_laws.earlier site_laws.present first graph.nodes (IsScanned graph.nodes seen.files seen.config) mid c.note_scan.new.site (c.note_scan.ensures.crash tells) (own_within first graph.nodes stored flags)
    (λ new scanned. scan_within next (g.S.Site.known old) first graph.nodes new tree stored tree_is was_kept flags seen.config (seen.files, scanned) (λ path. c.scans_see.ensures graph.nodes new tree seen path (c.in_ok-seen.ensures.seen tells) scanned))

-- ---- what the sources are blamed for

pub returns-in_err-seen-clause-blame : goal.returns-in_err-seen-clause-blame
returns-in_err-seen-clause-blame g c = λ tells first same.
    let fault = c.in_err-seen.field-0.0 in
    err_if c.from_residual.result (stop_of_scan fault) (BlamesSources first) c.from_residual.ensures.1
    (scan_blames first (g.S.Site.world c.args.site.now).tree c.scan_by.result fault same c.in_err-seen.was (c.scan_by.ensures.named tells))

pub returns-in_err-note_scan-clause-blame : goal.returns-in_err-note_scan-clause-blame
returns-in_err-note_scan-clause-blame g c = λ tells first same.
    let fault = c.in_err-note_scan.field-0.0 in
    err_if c.from_residual-in_err-note_scan.result (stop_of_graph fault) (BlamesSources first) c.from_residual-in_err-note_scan.ensures.1 (graph_blames first fault)

-- ---- what is owned

pub returns-in_err-seen-clause-owns : goal.returns-in_err-seen-clause-owns
returns-in_err-seen-clause-owns g c = λ tells.
    let site_laws = g.met.S.Site in
    read_owns g.S.Site tells site_laws.earlier site_laws.present c.args.site.now c.scan_by.new.site (c.scan_by.ensures.crash tells)

pub returns-in_err-note_scan-clause-owns : goal.returns-in_err-note_scan-clause-owns
returns-in_err-note_scan-clause-owns g c = λ tells begun since within owns.
    let site_laws = g.met.S.Site in
    let old = c.args.site.now in
    let mid = c.scan_by.new.site in
    let graph = c.args.graph.now in
    let seen = c.in_ok-seen.seen in
    let crash = c.scan_by.ensures.crash tells in
    let is = subst (IsGraphOf (entries_in graph.table)) c.nodes.ensures.value (c.nodes.ensures.graph c.requires.fresh) in
    let later = crash.later in
    let there : since ≤ g.S.Site.moment mid = omega (arith, within, later) in
    let owned = read_owns g.S.Site tells site_laws.earlier site_laws.present old mid crash begun since within owns in
    let stored = stored_over g.S.Site tells site_laws.earlier site_laws.present graph mid (c.reads_keep_graphs.ensures graph mid tells (c.scan_by.ensures.same tells) crash (c.requires.stands tells)) is in
    noted_owns g.S.Site tells site_laws.earlier site_laws.present begun since mid c.note_scan.new.site there owned graph.nodes stored (IsScanned graph.nodes seen.files seen.config) (c.note_scan.ensures.crash tells)
    (λ new scanned path mine. own_here g.S.Site tells site_laws.earlier site_laws.present begun since mid c.note_scan.new.site there owned graph.nodes stored path
    (sym (ap (λ (m : finite.FinMap by_names Owned). is_some (finite.get m path)) scanned.owned) ∙ mine))

pub returns-clause-owns : goal.returns-clause-owns
returns-clause-owns g c = λ tells begun since within owns.
    let site_laws = g.met.S.Site in
    let old = c.args.site.now in
    let mid = c.scan_by.new.site in
    let graph = c.args.graph.now in
    let seen = c.in_ok-seen.seen in
    let crash = c.scan_by.ensures.crash tells in
    let is = subst (IsGraphOf (entries_in graph.table)) c.nodes.ensures.value (c.nodes.ensures.graph c.requires.fresh) in
    let later = crash.later in
    let there : since ≤ g.S.Site.moment mid = omega (arith, within, later) in
    let owned = read_owns g.S.Site tells site_laws.earlier site_laws.present old mid crash begun since within owns in
    let stored = stored_over g.S.Site tells site_laws.earlier site_laws.present graph mid (c.reads_keep_graphs.ensures graph mid tells (c.scan_by.ensures.same tells) crash (c.requires.stands tells)) is in
    noted_owns g.S.Site tells site_laws.earlier site_laws.present begun since mid c.note_scan.new.site there owned graph.nodes stored (IsScanned graph.nodes seen.files seen.config) (c.note_scan.ensures.crash tells)
    (λ new scanned path mine. own_here g.S.Site tells site_laws.earlier site_laws.present begun since mid c.note_scan.new.site there owned graph.nodes stored path
    (sym (ap (λ (m : finite.FinMap by_names Owned). is_some (finite.get m path)) scanned.owned) ∙ mine))

-- ---- what a crash may leave of files

pub returns-in_err-seen-clause-trees : goal.returns-in_err-seen-clause-trees
returns-in_err-seen-clause-trees g c = λ tells.
    let site_laws = g.met.S.Site in
    trees_by g.S.Site tells site_laws.earlier site_laws.present c.args.site.now c.scan_by.new.site NoStep (λ v w none. absurd none) (c.scan_by.ensures.crash tells)

pub returns-in_err-note_scan-clause-trees : goal.returns-in_err-note_scan-clause-trees
returns-in_err-note_scan-clause-trees g c = λ tells.
    let site_laws = g.met.S.Site in
    let nodes = c.args.graph.now.nodes in
    let mid = c.scan_by.new.site in
    let seen = c.in_ok-seen.seen in
    trees_both g.S.Site tells site_laws.earlier site_laws.present c.args.site.now mid c.note_scan.new.site (trees_by g.S.Site tells site_laws.earlier site_laws.present c.args.site.now mid NoStep (λ v w none. absurd none) (c.scan_by.ensures.crash tells))
    (trees_by g.S.Site tells site_laws.earlier site_laws.present mid c.note_scan.new.site (NoteStep nodes (IsScanned nodes seen.files seen.config)) (λ v w step. step.tree) (c.note_scan.ensures.crash tells).on)

pub returns-clause-trees : goal.returns-clause-trees
returns-clause-trees g c = λ tells.
    let site_laws = g.met.S.Site in
    let nodes = c.args.graph.now.nodes in
    let mid = c.scan_by.new.site in
    let seen = c.in_ok-seen.seen in
    trees_both g.S.Site tells site_laws.earlier site_laws.present c.args.site.now mid c.note_scan.new.site (trees_by g.S.Site tells site_laws.earlier site_laws.present c.args.site.now mid NoStep (λ v w none. absurd none) (c.scan_by.ensures.crash tells))
    (trees_by g.S.Site tells site_laws.earlier site_laws.present mid c.note_scan.new.site (NoteStep nodes (IsScanned nodes seen.files seen.config)) (λ v w step. step.tree) (c.note_scan.ensures.crash tells).on)

-- ---- the limits

pub returns-clause-limits : goal.returns-clause-limits
returns-clause-limits g c = λ tells. c.in_ok-seen.ensures.within tells

-- ---- what a store lacks room for that is said to be full

pub returns-in_err-seen-clause-full : goal.returns-in_err-seen-clause-full
returns-in_err-seen-clause-full g c = λ tells.
    let fault = c.in_err-seen.field-0.0 in
    let now = g.S.Site.world c.scan_by.new.site in
    err_if c.from_residual.result (stop_of_scan fault) (FillsStore now) c.from_residual.ensures.1 (scan_fills now fault)

pub returns-in_err-note_scan-clause-full : goal.returns-in_err-note_scan-clause-full
returns-in_err-note_scan-clause-full g c = λ tells.
    let fault = c.in_err-note_scan.field-0.0 in
    let mid = c.scan_by.new.site in
    let graph = c.args.graph.now in
    let seen = c.in_ok-seen.seen in
    let same = c.scan_by.ensures.same tells in
    let is = subst (IsGraphOf (entries_in graph.table)) c.nodes.ensures.value (c.nodes.ensures.graph c.requires.fresh) in
    let sees = subst (λ (w : World). IsSeen w.tree seen) (sym same) (c.in_ok-seen.ensures.seen tells) in
    err_if c.from_residual-in_err-note_scan.result (stop_of_graph fault) (FillsStore (g.S.Site.world c.note_scan.new.site)) c.from_residual-in_err-note_scan.ensures.1
    (note_fills g.S.Site graph mid (c.reads_keep_graphs.ensures graph mid tells same (c.scan_by.ensures.crash tells) (c.requires.stands tells)) is (AreScanEdits graph.nodes seen.files seen.config) c.note_scan.new.graph c.note_scan.new.site
    c.note_scan.result fault c.in_err-note_scan.was c.note_scan.ensures.notes (λ edits are. inl (seen, sees, are)))
