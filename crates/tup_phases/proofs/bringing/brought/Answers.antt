use Rattle.tup_phases.proofs.Owning.{read_owns}
use Rattle.std.proofs.Common.{Err, sym, subst, Ok, ap, map, ◌∙◌, inl, refl, arith}
use Rattle.std.specs.FinMap as finite
use Rattle.tup_graph.specs.Answers.{tup_config}
use Rattle.tup_site.specs.Cause.{IsTooLarge}
use Rattle.tup_refresh.specs.Cause.{IsRefreshOf}
use Rattle.tup_phases.specs.Kept.{BlamesSources, BringsNothing}
use Rattle.tup_phases.proofs.Blaming.{refresh_blames}
use Rattle.tup_phases.proofs.Within.{over_within, scan_within}
use Rattle.tup_path.specs.Tree.{Tree}
use Rattle.tup_table.specs.Entries.{entries_of}
use Rattle.tup_table.specs.Table.{entries_in}
use Rattle.tup_graph.specs.Graph.{GraphState}
use Rattle.tup_graph.specs.Opening.{IsGraphOf}
use Rattle.tup_refresh.specs.Idle.{idle}
use Rattle.tup_refresh.specs.Refresh.{IsRefresh}
use Rattle.tup_ledger.specs.Sources.{sources_of}
use Rattle.tup_phases.proofs.Brought.{idle_brought, plain_refreshed, refreshed_of}
use Rattle.tup_phases.proofs.Keeping.{files_both, files_read, first_kept, graph_kept, same_sources, since_read, trees_both, trees_by}
use Rattle.std.specs.Result.{result_err}
use Rattle.tup_site.specs.Crash.{NoStep}
use Rattle.tup_site.specs.World.{World}
use Rattle.tup_promise.specs.Cause.{HasCountedCause}
use Rattle.tup_promise.specs.Did.{IsNoted}
use Rattle.tup_promise.specs.Stopped.{stop_of_refresh}
use Rattle.tup_promise.proofs.Handed.{err_if, err_so}
use Rattle.tup_phases.specs.Prepared.{StopsReading}
use Rattle.tup_phases.proofs.Seeing.{seen_again}
use Rattle.tup_phases.proofs.Stopping.{counted_before, refresh_counted, refresh_opened}
use Rattle.tup_phases.specs.Room.{FillsStore}
use Rattle.tup_phases.proofs.Filling.{refresh_fills}
use Rattle.tup_rule_diff.specs.Edits.{dir_of}
use Rattle.tup_phases.proofs.Reading.{reads_these}
use Rattle.tup_phases.proofs.bringing.brought.Goals as goal

-- ---- that they bring nothing is plain

pub returns-then-is_plain-clause-files : goal.returns-then-is_plain-clause-files
returns-then-is_plain-clause-files g c = λ tells. record { later = omega arith; tree = refl; known = refl }

pub returns-then-is_plain-clause-trees : goal.returns-then-is_plain-clause-trees
returns-then-is_plain-clause-trees g c = λ tells. record { later = omega arith; kept = λ t w before left. left; since = λ t w before left. inl left }

pub returns-then-is_plain-clause-kept : goal.returns-then-is_plain-clause-kept
returns-then-is_plain-clause-kept g c = λ tells next first since noted kept. kept

pub returns-then-is_plain-clause-owns : goal.returns-then-is_plain-clause-owns
returns-then-is_plain-clause-owns g c = λ tells next since begun noted kept owns. owns

pub returns-then-is_plain-clause-brought : goal.returns-then-is_plain-clause-brought
returns-then-is_plain-clause-brought g c = λ tells next first since noted kept.
    let site_laws = g.met.S.Site in
    let at = c.args.site.now in
    let graph = c.args.graph.now in
    let known = g.S.Site.known at in
    let stands = c.requires.stands tells in
    let seen = c.requires.seen tells in
    let plain = c.is_plain.ensures.idle c.if-is_plain.true in
    let is = c.is_plain.ensures.graph c.requires.fresh in
    let kept_now = graph_kept g.S.Site tells site_laws.earlier site_laws.present next first since graph at stands is kept in
    let refreshed =
    plain_refreshed first (g.S.Site.world at) graph.nodes noted seen next known c.args.config.now (site_laws.is_known at tells) (site_laws.knows_tree at tells) kept_now plain (c.requires.config tells) in
    idle_brought first (g.S.Site.world at) graph.nodes noted next known
    (first_kept g.S.Site tells site_laws.earlier site_laws.present next first since graph at stands is kept noted.was noted.stored) seen (idle graph.nodes)
    (c.flags_are_of_rules.ensures (entries_of noted.stored.commits) noted.was noted.stored.graph) kept_now
    (record { created = plain.created; fresh = refl; gone = refl })
    (subst (λ (sources : Tree). IsRefresh graph.nodes sources (Ok (idle graph.nodes))) (same_sources g.S.Site tells site_laws.earlier site_laws.present next first since graph at stands is kept noted.was noted.stored) refreshed)

pub returns-then-is_plain-clause-reads : goal.returns-then-is_plain-clause-reads
returns-then-is_plain-clause-reads g c = λ tells next first since noted kept none.
    let site_laws = g.met.S.Site in
    let at = c.args.site.now in
    let graph = c.args.graph.now in
    let seen = c.requires.seen tells in
    let is = c.is_plain.ensures.graph c.requires.fresh in
    let kept_now = graph_kept g.S.Site tells site_laws.earlier site_laws.present next first since graph at (c.requires.stands tells) is kept in
    reads_these first (g.S.Site.world at) graph.nodes noted seen (idle graph.nodes) c.args.log.now.read
    (plain_refreshed first (g.S.Site.world at) graph.nodes noted seen next (g.S.Site.known at) c.args.config.now (site_laws.is_known at tells) (site_laws.knows_tree at tells) kept_now (c.is_plain.ensures.idle c.if-is_plain.true) (c.requires.config tells))
    none

pub returns-then-is_plain-clause-within : goal.returns-then-is_plain-clause-within
returns-then-is_plain-clause-within g c = λ tells next first since noted kept.
    let site_laws = g.met.S.Site in
    let at = c.args.site.now in
    let graph = c.args.graph.now in
    let stands = c.requires.stands tells in
    let is = c.is_plain.ensures.graph c.requires.fresh in
    let was_kept = first_kept g.S.Site tells site_laws.earlier site_laws.present next first since graph at stands is kept noted.was noted.stored in
    let flags = c.flags_are_of_rules.ensures (entries_of noted.stored.commits) noted.was noted.stored.graph in
    over_within g.S.Site tells site_laws.earlier site_laws.present first next first since graph at stands is kept
    (scan_within next (g.S.Site.known at) first noted.was graph.nodes (g.S.Site.world at).tree noted.stored noted.tree was_kept flags (finite.get first.tree tup_config) noted.scanned (c.requires.seen tells))

-- ---- they couldn't be read

pub returns-in_err-found-clause-stops : goal.returns-in_err-found-clause-stops
returns-in_err-found-clause-stops g c =
    let fault = c.in_err-found.field-0.0 in
    err_if c.from_residual.result (stop_of_refresh fault) StopsReading c.from_residual.ensures.1 (refresh_opened fault)

pub returns-in_err-found-clause-counted : goal.returns-in_err-found-clause-counted
returns-in_err-found-clause-counted g c =
    let fault = c.in_err-found.field-0.0 in
    let before = g.S.Site.faults c.args.site.now in
    let now = g.S.Site.faults c.refresh.new.site in
    err_so c.from_residual.result (stop_of_refresh fault) (HasCountedCause before now) c.from_residual.ensures.1 (refresh_counted before now c.refresh.result fault c.in_err-found.was c.refresh.ensures.cause c.refresh.ensures.large)

-- ---- they brought nothing

pub returns-then-brings_nothing-clause-stands : goal.returns-then-brings_nothing-clause-stands
returns-then-brings_nothing-clause-stands g c = λ tells.
    c.reads_keep_graphs.ensures c.args.graph.now c.refresh.new.site tells (c.refresh.ensures.same tells) (c.refresh.ensures.crash tells) (c.requires.stands tells)

pub returns-then-brings_nothing-clause-seen : goal.returns-then-brings_nothing-clause-seen
returns-then-brings_nothing-clause-seen g c = λ tells.
    seen_again c.args.graph.now.nodes (g.S.Site.world c.args.site.now).tree (g.S.Site.world c.refresh.new.site).tree (ap (λ (w : World). w.tree) (c.refresh.ensures.same tells)) (c.requires.seen tells)

pub returns-then-brings_nothing-clause-counted : goal.returns-then-brings_nothing-clause-counted
returns-then-brings_nothing-clause-counted g c = c.refresh.ensures.cause.steady (λ e. cc (c.in_ok-found.was, e))

-- ---- they did

pub swapped-requires-clause-stands : goal.swapped-requires-clause-stands
swapped-requires-clause-stands g c = λ tells.
    c.reads_keep_graphs.ensures c.args.graph.now c.refresh.new.site tells (c.refresh.ensures.same tells) (c.refresh.ensures.crash tells) (c.requires.stands tells)

pub swapped-requires-clause-seen : goal.swapped-requires-clause-seen
swapped-requires-clause-seen g c = λ tells.
    seen_again c.args.graph.now.nodes (g.S.Site.world c.args.site.now).tree (g.S.Site.world c.refresh.new.site).tree (ap (λ (w : World). w.tree) (c.refresh.ensures.same tells)) (c.requires.seen tells)

pub returns-clause-counted : goal.returns-clause-counted
returns-clause-counted g c =
    counted_before (g.S.Site.faults c.args.site.now) (g.S.Site.faults c.refresh.new.site) (g.S.Site.faults c.swapped.new.site) (result_err c.swapped.result)
    (c.refresh.ensures.cause.steady (λ e. cc (c.in_ok-found.was, e))) c.swapped.ensures.counted

-- ---- what it leaves of a site and keeps of it

pub returns-in_err-found-clause-files : goal.returns-in_err-found-clause-files
returns-in_err-found-clause-files g c = λ tells. files_read g.S.Site c.args.site.now c.refresh.new.site (c.refresh.ensures.same tells) (c.refresh.ensures.crash tells) (c.refresh.ensures.known tells)

pub returns-in_err-found-clause-kept : goal.returns-in_err-found-clause-kept
returns-in_err-found-clause-kept g c = λ tells next first since noted kept.
    let crash = c.refresh.ensures.crash tells in
    since_read g.S.Site next first since c.args.site.now c.refresh.new.site (files_read g.S.Site c.args.site.now c.refresh.new.site (c.refresh.ensures.same tells) crash (c.refresh.ensures.known tells)) crash kept

pub returns-then-brings_nothing-clause-files : goal.returns-then-brings_nothing-clause-files
returns-then-brings_nothing-clause-files g c = λ tells. files_read g.S.Site c.args.site.now c.refresh.new.site (c.refresh.ensures.same tells) (c.refresh.ensures.crash tells) (c.refresh.ensures.known tells)

pub returns-then-brings_nothing-clause-kept : goal.returns-then-brings_nothing-clause-kept
returns-then-brings_nothing-clause-kept g c = λ tells next first since noted kept.
    let crash = c.refresh.ensures.crash tells in
    since_read g.S.Site next first since c.args.site.now c.refresh.new.site (files_read g.S.Site c.args.site.now c.refresh.new.site (c.refresh.ensures.same tells) crash (c.refresh.ensures.known tells)) crash kept

pub returns-then-brings_nothing-clause-brought : goal.returns-then-brings_nothing-clause-brought
returns-then-brings_nothing-clause-brought g c = λ tells next first since noted kept.
    let site_laws = g.met.S.Site in
    let at = c.args.site.now in
    let graph = c.args.graph.now in
    let tree = (g.S.Site.world at).tree in
    let known = g.S.Site.known at in
    let found = c.in_ok-found.found in
    let is = subst (IsGraphOf (entries_in graph.table)) c.nodes.ensures.value (c.nodes.ensures.graph c.requires.fresh) in
    let stands = c.requires.stands tells in
    let seen = c.requires.seen tells in
    let kept_now = graph_kept g.S.Site tells site_laws.earlier site_laws.present next first since graph at stands is kept in
    let refreshed = refreshed_of next known graph.nodes c.nodes.result.now tree c.args.config.now (Ok found) c.nodes.ensures.value (site_laws.is_known at tells) (site_laws.knows_tree at tells) kept_now seen (c.requires.config tells) (c.in_ok-found.ensures.refreshed tells) in
    idle_brought first (g.S.Site.world at) graph.nodes noted next known
    (first_kept g.S.Site tells site_laws.earlier site_laws.present next first since graph at stands is kept noted.was noted.stored) seen found
    (c.flags_are_of_rules.ensures (entries_of noted.stored.commits) noted.was noted.stored.graph) kept_now
    (subst (λ (nodes : GraphState). BringsNothing nodes found) c.nodes-2.ensures.value (c.brings_nothing.ensures c.if-brings_nothing.true))
    (subst (λ (sources : Tree). IsRefresh graph.nodes sources (Ok found)) (same_sources g.S.Site tells site_laws.earlier site_laws.present next first since graph at stands is kept noted.was noted.stored) refreshed)

pub returns-then-brings_nothing-clause-reads : goal.returns-then-brings_nothing-clause-reads
returns-then-brings_nothing-clause-reads g c = λ tells next first since noted kept none.
    let site_laws = g.met.S.Site in
    let at = c.args.site.now in
    let graph = c.args.graph.now in
    let tree = (g.S.Site.world at).tree in
    let known = g.S.Site.known at in
    let found = c.in_ok-found.found in
    let is = subst (IsGraphOf (entries_in graph.table)) c.nodes.ensures.value (c.nodes.ensures.graph c.requires.fresh) in
    let seen = c.requires.seen tells in
    let kept_now = graph_kept g.S.Site tells site_laws.earlier site_laws.present next first since graph at (c.requires.stands tells) is kept in
    let refreshed = refreshed_of next known graph.nodes c.nodes.result.now tree c.args.config.now (Ok found) c.nodes.ensures.value (site_laws.is_known at tells) (site_laws.knows_tree at tells) kept_now seen (c.requires.config tells) (c.in_ok-found.ensures.refreshed tells) in
    let nothing = subst (λ (nodes : GraphState). BringsNothing nodes found) c.nodes-2.ensures.value (c.brings_nothing.ensures c.if-brings_nothing.true) in
    reads_these first (g.S.Site.world at) graph.nodes noted seen found c.args.log.now.read refreshed (none ∙ sym (ap (map dir_of) nothing.fresh))

pub returns-clause-reads : goal.returns-clause-reads
returns-clause-reads g c = λ tells next first since noted kept none.
    let site_laws = g.met.S.Site in
    let at = c.args.site.now in
    let graph = c.args.graph.now in
    let tree = (g.S.Site.world at).tree in
    let known = g.S.Site.known at in
    let found = c.in_ok-found.found in
    let same = c.refresh.ensures.same tells in
    let is = subst (IsGraphOf (entries_in graph.table)) c.nodes.ensures.value (c.nodes.ensures.graph c.requires.fresh) in
    let kept_now = graph_kept g.S.Site tells site_laws.earlier site_laws.present next first since graph at (c.requires.stands tells) is kept in
    let refreshed = refreshed_of next known graph.nodes c.nodes.result.now tree c.args.config.now (Ok found) c.nodes.ensures.value (site_laws.is_known at tells) (site_laws.knows_tree at tells) kept_now (c.requires.seen tells) (c.requires.config tells) (c.in_ok-found.ensures.refreshed tells) in
    c.swapped.ensures.reads tells first
    (subst (λ (w : World). IsRefresh graph.nodes (sources_of graph.nodes w.tree) (Ok found)) (sym same) refreshed)
    (subst (λ (w : World). IsNoted first w graph.nodes) (sym same) noted)

pub returns-clause-files : goal.returns-clause-files
returns-clause-files g c = λ tells.
    files_both g.S.Site c.args.site.now c.refresh.new.site c.swapped.new.site
    (files_read g.S.Site c.args.site.now c.refresh.new.site (c.refresh.ensures.same tells) (c.refresh.ensures.crash tells) (c.refresh.ensures.known tells)) (c.swapped.ensures.files tells)

pub returns-clause-kept : goal.returns-clause-kept
returns-clause-kept g c = λ tells next first since noted kept.
    let site_laws = g.met.S.Site in
    let at = c.args.site.now in
    let mid = c.refresh.new.site in
    let graph = c.args.graph.now in
    let tree = (g.S.Site.world at).tree in
    let known = g.S.Site.known at in
    let found = c.in_ok-found.found in
    let same = c.refresh.ensures.same tells in
    let crash = c.refresh.ensures.crash tells in
    let is = subst (IsGraphOf (entries_in graph.table)) c.nodes.ensures.value (c.nodes.ensures.graph c.requires.fresh) in
    let kept_now = graph_kept g.S.Site tells site_laws.earlier site_laws.present next first since graph at (c.requires.stands tells) is kept in
    let refreshed = refreshed_of next known graph.nodes c.nodes.result.now tree c.args.config.now (Ok found) c.nodes.ensures.value (site_laws.is_known at tells) (site_laws.knows_tree at tells) kept_now (c.requires.seen tells) (c.requires.config tells) (c.in_ok-found.ensures.refreshed tells) in
    c.swapped.ensures.kept tells next first since
    (subst (λ (w : World). IsRefresh graph.nodes (sources_of graph.nodes w.tree) (Ok found)) (sym same) refreshed)
    (subst (λ (w : World). IsNoted first w graph.nodes) (sym same) noted)
    (since_read g.S.Site next first since at mid (files_read g.S.Site at mid same crash (c.refresh.ensures.known tells)) crash kept)

pub returns-clause-brought : goal.returns-clause-brought
returns-clause-brought g c = λ tells next first since noted kept.
    let site_laws = g.met.S.Site in
    let at = c.args.site.now in
    let mid = c.refresh.new.site in
    let graph = c.args.graph.now in
    let tree = (g.S.Site.world at).tree in
    let known = g.S.Site.known at in
    let found = c.in_ok-found.found in
    let same = c.refresh.ensures.same tells in
    let crash = c.refresh.ensures.crash tells in
    let is = subst (IsGraphOf (entries_in graph.table)) c.nodes.ensures.value (c.nodes.ensures.graph c.requires.fresh) in
    let kept_now = graph_kept g.S.Site tells site_laws.earlier site_laws.present next first since graph at (c.requires.stands tells) is kept in
    let refreshed = refreshed_of next known graph.nodes c.nodes.result.now tree c.args.config.now (Ok found) c.nodes.ensures.value (site_laws.is_known at tells) (site_laws.knows_tree at tells) kept_now (c.requires.seen tells) (c.requires.config tells) (c.in_ok-found.ensures.refreshed tells) in
    c.swapped.ensures.brought tells next first since
    (subst (λ (w : World). IsRefresh graph.nodes (sources_of graph.nodes w.tree) (Ok found)) (sym same) refreshed)
    (subst (λ (w : World). IsNoted first w graph.nodes) (sym same) noted)
    (since_read g.S.Site next first since at mid (files_read g.S.Site at mid same crash (c.refresh.ensures.known tells)) crash kept)

-- ---- what stands in the store then stays within what a world had

pub returns-in_err-found-clause-within : goal.returns-in_err-found-clause-within
returns-in_err-found-clause-within g c = λ tells next first since noted kept.
    let site_laws = g.met.S.Site in
    let at = c.args.site.now in
    let mid = c.refresh.new.site in
    let graph = c.args.graph.now in
    let same = c.refresh.ensures.same tells in
    let crash = c.refresh.ensures.crash tells in
    let stands = c.requires.stands tells in
    let is = subst (IsGraphOf (entries_in graph.table)) c.nodes.ensures.value (c.nodes.ensures.graph c.requires.fresh) in
    let was_kept = first_kept g.S.Site tells site_laws.earlier site_laws.present next first since graph at stands is kept noted.was noted.stored in
    let flags = c.flags_are_of_rules.ensures (entries_of noted.stored.commits) noted.was noted.stored.graph in
    over_within g.S.Site tells site_laws.earlier site_laws.present first next first since graph mid (c.reads_keep_graphs.ensures graph mid tells same crash stands) is
    (since_read g.S.Site next first since at mid (files_read g.S.Site at mid same crash (c.refresh.ensures.known tells)) crash kept)
    (scan_within next (g.S.Site.known at) first noted.was graph.nodes (g.S.Site.world at).tree noted.stored noted.tree was_kept flags (finite.get first.tree tup_config) noted.scanned (c.requires.seen tells))

pub returns-then-brings_nothing-clause-within : goal.returns-then-brings_nothing-clause-within
returns-then-brings_nothing-clause-within g c = λ tells next first since noted kept.
    let site_laws = g.met.S.Site in
    let at = c.args.site.now in
    let mid = c.refresh.new.site in
    let graph = c.args.graph.now in
    let same = c.refresh.ensures.same tells in
    let crash = c.refresh.ensures.crash tells in
    let stands = c.requires.stands tells in
    let is = subst (IsGraphOf (entries_in graph.table)) c.nodes.ensures.value (c.nodes.ensures.graph c.requires.fresh) in
    let was_kept = first_kept g.S.Site tells site_laws.earlier site_laws.present next first since graph at stands is kept noted.was noted.stored in
    let flags = c.flags_are_of_rules.ensures (entries_of noted.stored.commits) noted.was noted.stored.graph in
    over_within g.S.Site tells site_laws.earlier site_laws.present first next first since graph mid (c.reads_keep_graphs.ensures graph mid tells same crash stands) is
    (since_read g.S.Site next first since at mid (files_read g.S.Site at mid same crash (c.refresh.ensures.known tells)) crash kept)
    (scan_within next (g.S.Site.known at) first noted.was graph.nodes (g.S.Site.world at).tree noted.stored noted.tree was_kept flags (finite.get first.tree tup_config) noted.scanned (c.requires.seen tells))

pub returns-clause-within : goal.returns-clause-within
returns-clause-within g c = λ tells next first since noted kept.
    let site_laws = g.met.S.Site in
    let at = c.args.site.now in
    let mid = c.refresh.new.site in
    let graph = c.args.graph.now in
    let tree = (g.S.Site.world at).tree in
    let known = g.S.Site.known at in
    let found = c.in_ok-found.found in
    let same = c.refresh.ensures.same tells in
    let crash = c.refresh.ensures.crash tells in
    let is = subst (IsGraphOf (entries_in graph.table)) c.nodes.ensures.value (c.nodes.ensures.graph c.requires.fresh) in
    let kept_now = graph_kept g.S.Site tells site_laws.earlier site_laws.present next first since graph at (c.requires.stands tells) is kept in
    let refreshed = refreshed_of next known graph.nodes c.nodes.result.now tree c.args.config.now (Ok found) c.nodes.ensures.value (site_laws.is_known at tells) (site_laws.knows_tree at tells) kept_now (c.requires.seen tells) (c.requires.config tells) (c.in_ok-found.ensures.refreshed tells) in
    c.swapped.ensures.within tells next first since
    (subst (λ (w : World). IsRefresh graph.nodes (sources_of graph.nodes w.tree) (Ok found)) (sym same) refreshed)
    (subst (λ (w : World). IsNoted first w graph.nodes) (sym same) noted)
    (since_read g.S.Site next first since at mid (files_read g.S.Site at mid same crash (c.refresh.ensures.known tells)) crash kept)

-- ---- what the sources are blamed for

pub returns-in_err-found-clause-blame : goal.returns-in_err-found-clause-blame
returns-in_err-found-clause-blame g c = λ tells next first since noted kept.
    let site_laws = g.met.S.Site in
    let at = c.args.site.now in
    let graph = c.args.graph.now in
    let tree = (g.S.Site.world at).tree in
    let known = g.S.Site.known at in
    let fault = c.in_err-found.field-0.0 in
    let stands = c.requires.stands tells in
    let is = subst (IsGraphOf (entries_in graph.table)) c.nodes.ensures.value (c.nodes.ensures.graph c.requires.fresh) in
    let kept_now = graph_kept g.S.Site tells site_laws.earlier site_laws.present next first since graph at stands is kept in
    let refreshed = refreshed_of next known graph.nodes c.nodes.result.now tree c.args.config.now (Err fault) c.nodes.ensures.value (site_laws.is_known at tells) (site_laws.knows_tree at tells) kept_now (c.requires.seen tells) (c.requires.config tells) (c.in_err-found.ensures.refreshed tells) in
    err_if c.from_residual.result (stop_of_refresh fault) (BlamesSources first) c.from_residual.ensures.1
    (refresh_blames first noted.was noted.stored graph.nodes fault
    (subst (λ (sources : Tree). IsRefreshOf graph.nodes sources (Err fault)) (same_sources g.S.Site tells site_laws.earlier site_laws.present next first since graph at stands is kept noted.was noted.stored) refreshed)
    (λ n large. let it = c.refresh.ensures.named tells n (c.in_err-found.was ∙ ap Err large) in (it.0, subst (λ (t : Tree). IsTooLarge t it.0 n) noted.tree it.1)))

pub returns-clause-blame : goal.returns-clause-blame
returns-clause-blame g c = λ tells next first since noted kept.
    let site_laws = g.met.S.Site in
    let at = c.args.site.now in
    let mid = c.refresh.new.site in
    let graph = c.args.graph.now in
    let tree = (g.S.Site.world at).tree in
    let known = g.S.Site.known at in
    let found = c.in_ok-found.found in
    let same = c.refresh.ensures.same tells in
    let crash = c.refresh.ensures.crash tells in
    let is = subst (IsGraphOf (entries_in graph.table)) c.nodes.ensures.value (c.nodes.ensures.graph c.requires.fresh) in
    let kept_now = graph_kept g.S.Site tells site_laws.earlier site_laws.present next first since graph at (c.requires.stands tells) is kept in
    let refreshed = refreshed_of next known graph.nodes c.nodes.result.now tree c.args.config.now (Ok found) c.nodes.ensures.value (site_laws.is_known at tells) (site_laws.knows_tree at tells) kept_now (c.requires.seen tells) (c.requires.config tells) (c.in_ok-found.ensures.refreshed tells) in
    c.swapped.ensures.blame tells next first since
    (subst (λ (w : World). IsRefresh graph.nodes (sources_of graph.nodes w.tree) (Ok found)) (sym same) refreshed)
    (subst (λ (w : World). IsNoted first w graph.nodes) (sym same) noted)
    (since_read g.S.Site next first since at mid (files_read g.S.Site at mid same crash (c.refresh.ensures.known tells)) crash kept)

-- ---- what is owned

pub returns-in_err-found-clause-owns : goal.returns-in_err-found-clause-owns
returns-in_err-found-clause-owns g c = λ tells next since begun noted kept owns.
    let site_laws = g.met.S.Site in
    read_owns g.S.Site tells site_laws.earlier site_laws.present c.args.site.now c.refresh.new.site (c.refresh.ensures.crash tells) begun since kept.began owns

pub returns-then-brings_nothing-clause-owns : goal.returns-then-brings_nothing-clause-owns
returns-then-brings_nothing-clause-owns g c = λ tells next since begun noted kept owns.
    let site_laws = g.met.S.Site in
    read_owns g.S.Site tells site_laws.earlier site_laws.present c.args.site.now c.refresh.new.site (c.refresh.ensures.crash tells) begun since kept.began owns

pub returns-clause-owns : goal.returns-clause-owns
returns-clause-owns g c = λ tells next since begun noted kept owns.
    let first = g.S.Site.world begun in
    let site_laws = g.met.S.Site in
    let at = c.args.site.now in
    let mid = c.refresh.new.site in
    let graph = c.args.graph.now in
    let tree = (g.S.Site.world at).tree in
    let known = g.S.Site.known at in
    let found = c.in_ok-found.found in
    let same = c.refresh.ensures.same tells in
    let crash = c.refresh.ensures.crash tells in
    let is = subst (IsGraphOf (entries_in graph.table)) c.nodes.ensures.value (c.nodes.ensures.graph c.requires.fresh) in
    let kept_now = graph_kept g.S.Site tells site_laws.earlier site_laws.present next first since graph at (c.requires.stands tells) is kept in
    let refreshed = refreshed_of next known graph.nodes c.nodes.result.now tree c.args.config.now (Ok found) c.nodes.ensures.value (site_laws.is_known at tells) (site_laws.knows_tree at tells) kept_now (c.requires.seen tells) (c.requires.config tells) (c.in_ok-found.ensures.refreshed tells) in
    c.swapped.ensures.owns tells next since begun
    (subst (λ (w : World). IsRefresh graph.nodes (sources_of graph.nodes w.tree) (Ok found)) (sym same) refreshed)
    (subst (λ (w : World). IsNoted first w graph.nodes) (sym same) noted)
    (since_read g.S.Site next first since at mid (files_read g.S.Site at mid same crash (c.refresh.ensures.known tells)) crash kept)
    (read_owns g.S.Site tells site_laws.earlier site_laws.present at mid crash begun since kept.began owns)

-- ---- what a crash may leave of files

pub returns-in_err-found-clause-trees : goal.returns-in_err-found-clause-trees
returns-in_err-found-clause-trees g c = λ tells.
    let site_laws = g.met.S.Site in
    trees_by g.S.Site tells site_laws.earlier site_laws.present c.args.site.now c.refresh.new.site NoStep (λ v w none. absurd none) (c.refresh.ensures.crash tells)

pub returns-then-brings_nothing-clause-trees : goal.returns-then-brings_nothing-clause-trees
returns-then-brings_nothing-clause-trees g c = λ tells.
    let site_laws = g.met.S.Site in
    trees_by g.S.Site tells site_laws.earlier site_laws.present c.args.site.now c.refresh.new.site NoStep (λ v w none. absurd none) (c.refresh.ensures.crash tells)

pub returns-clause-trees : goal.returns-clause-trees
returns-clause-trees g c = λ tells.
    let site_laws = g.met.S.Site in
    let mid = c.refresh.new.site in
    trees_both g.S.Site tells site_laws.earlier site_laws.present c.args.site.now mid c.swapped.new.site (trees_by g.S.Site tells site_laws.earlier site_laws.present c.args.site.now mid NoStep (λ v w none. absurd none) (c.refresh.ensures.crash tells))
    (c.swapped.ensures.trees tells)

-- ---- what a store lacks room for that is said to be full

pub returns-in_err-found-clause-full : goal.returns-in_err-found-clause-full
returns-in_err-found-clause-full g c = λ tells next first since noted kept.
    let fault = c.in_err-found.field-0.0 in
    let now = g.S.Site.world c.refresh.new.site in
    err_if c.from_residual.result (stop_of_refresh fault) (FillsStore now) c.from_residual.ensures.1 (refresh_fills now fault)

pub returns-clause-full : goal.returns-clause-full
returns-clause-full g c = λ tells next first since noted kept.
    let site_laws = g.met.S.Site in
    let at = c.args.site.now in
    let graph = c.args.graph.now in
    let tree = (g.S.Site.world at).tree in
    let known = g.S.Site.known at in
    let found = c.in_ok-found.found in
    let is = subst (IsGraphOf (entries_in graph.table)) c.nodes.ensures.value (c.nodes.ensures.graph c.requires.fresh) in
    let kept_now = graph_kept g.S.Site tells site_laws.earlier site_laws.present next first since graph at (c.requires.stands tells) is kept in
    let refreshed = refreshed_of next known graph.nodes c.nodes.result.now tree c.args.config.now (Ok found) c.nodes.ensures.value (site_laws.is_known at tells) (site_laws.knows_tree at tells) kept_now (c.requires.seen tells) (c.requires.config tells) (c.in_ok-found.ensures.refreshed tells) in
    c.swapped.ensures.full tells (subst (λ (w : World). IsRefresh graph.nodes (sources_of graph.nodes w.tree) (Ok found)) (sym (c.refresh.ensures.same tells)) refreshed)
