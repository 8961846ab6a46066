use Rattle.std.proofs.Common.{inl, inr, ⊎_elim, Err, sym, subst, List, Ok, ap, map, arith, refl, ◌∙◌}
use Rattle.std.specs.FinMap as finite
use Rattle.tup_graph.specs.Answers.{tup_config}
use Rattle.tup_phases.proofs.Owning.{noted_owns, own_here, stored_over, swap_owned}
use Rattle.tup_project.specs.Project.{ComeTo, AreLinked}
use Rattle.tup_refresh.proofs.Ending.{refreshed_read}
use Rattle.tup_phases.specs.Kept.{BlamesSources}
use Rattle.tup_phases.proofs.Blaming.{graph_blames, link_blames}
use Rattle.tup_table.specs.Entries.{entries_of}
use Rattle.tup_graph.specs.Swap.{IsSwapped}
use Rattle.tup_phases.proofs.Within.{noted_within, over_within, scan_within, swap_within}
use Rattle.tup_path.specs.Name.{Names}
use Rattle.tup_path.specs.Tree.{Tree, IsTree}
use Rattle.tup_rule.specs.declared.question.Reading.{Reading}
use Rattle.tup_rule.specs.declared.rule.Rule.{Rule}
use Rattle.tup_clean.specs.Buildable.{IsBuildable}
use Rattle.tup_readings.specs.Readings.{IsOutcome}
use Rattle.tup_ledger.specs.Sources.{sources_of}
use Rattle.tup_table.specs.Table.{entries_in}
use Rattle.tup_graph.specs.Opening.{IsGraphOf}
use Rattle.tup_law_phases.proofs.Seen.{sees}
use Rattle.tup_refresh.specs.Refresh.{IsRefresh}
use Rattle.tup_refresh.specs.Untouched.{SeesSources}
use Rattle.tup_phases.proofs.Brought.{fits_so, owned_still, swap_brought}
use Rattle.tup_site.specs.World.{TreeStays}
use Rattle.tup_stale.proofs.Going.{at_rest}
use Rattle.tup_commit.specs.Crash.{NoteStep}
use Rattle.tup_phases.proofs.Keeping.{first_kept, same_sources, swapped_keeps, trees_by}
use Rattle.tup_rule_diff.specs.Edits.{AreSwapEdits}
use Rattle.tup_promise.specs.Cause.{HasCountedCause}
use Rattle.tup_promise.specs.Stopped.{no_memory, stop_of_graph, stop_of_project}
use Rattle.tup_promise.proofs.Handed.{err_if, err_so}
use Rattle.tup_phases.specs.Prepared.{StopsReading}
use Rattle.tup_phases.proofs.Seeing.{seen_again, seen_alike}
use Rattle.tup_phases.proofs.Stopping.{graph_counted, link_counted, link_opened, note_opened}
use Rattle.tup_phases.specs.Room.{FillsStore}
use Rattle.tup_phases.proofs.Filling.{link_fills, note_fills}
use Rattle.tup_rule_diff.specs.Edits.{dir_of}
use Rattle.tup_phases.proofs.Reading.{reads_these}
use Rattle.tup_phases.proofs.bringing.swapped.Goals as goal

-- ---- the readings come to no rules

pub returns-in_err-rules-clause-stops : goal.returns-in_err-rules-clause-stops
returns-in_err-rules-clause-stops g c =
    let fault = c.in_err-rules.field-0.0 in
    err_if c.from_residual.result (stop_of_project fault) StopsReading c.from_residual.ensures.1 (link_opened fault)

pub returns-in_err-rules-clause-counted : goal.returns-in_err-rules-clause-counted
returns-in_err-rules-clause-counted g c =
    let fault = c.in_err-rules.field-0.0 in
    let faults = g.S.Site.faults c.args.site.now in
    err_so c.from_residual.result (stop_of_project fault) (HasCountedCause faults faults) c.from_residual.ensures.1 (link_counted faults c.as_slice.result.now fault c.in_err-rules.ensures.cause)

-- ---- no memory for their folders

pub returns-in_err-read-clause-stops : goal.returns-in_err-read-clause-stops
returns-in_err-read-clause-stops g c = err_if c.from_residual-in_err-read.result no_memory StopsReading c.from_residual-in_err-read.ensures.1 tt

pub returns-in_err-read-clause-counted : goal.returns-in_err-read-clause-counted
returns-in_err-read-clause-counted g c =
    let faults = g.S.Site.faults c.args.site.now in
    err_so c.from_residual-in_err-read.result no_memory (HasCountedCause faults faults) c.from_residual-in_err-read.ensures.1 refl

-- ---- they weren't put in

pub returns-in_err-swap_rules-clause-stops : goal.returns-in_err-swap_rules-clause-stops
returns-in_err-swap_rules-clause-stops g c =
    let fault = c.in_err-swap_rules.field-0.0 in
    let old = c.args.graph.now in
    err_if c.from_residual-in_err-swap_rules.result (stop_of_graph fault) StopsReading c.from_residual-in_err-swap_rules.ensures.1
    (note_opened (AreSwapEdits old.nodes c.args.found.fresh c.args.found.gone c.as_slice-3.result.now) old c.swap_rules.new.graph c.args.site.now c.swap_rules.new.site c.swap_rules.result fault c.in_err-swap_rules.was c.swap_rules.ensures.swaps)

pub returns-in_err-swap_rules-clause-counted : goal.returns-in_err-swap_rules-clause-counted
returns-in_err-swap_rules-clause-counted g c =
    let fault = c.in_err-swap_rules.field-0.0 in
    let before = g.S.Site.faults c.args.site.now in
    let now = g.S.Site.faults c.swap_rules.new.site in
    err_so c.from_residual-in_err-swap_rules.result (stop_of_graph fault) (HasCountedCause before now) c.from_residual-in_err-swap_rules.ensures.1 (graph_counted before now c.swap_rules.result fault c.in_err-swap_rules.was c.swap_rules.ensures.cause)

-- ---- they were

pub returns-clause-seen : goal.returns-clause-seen
returns-clause-seen g c = λ tells.
    let new = c.swap_rules.new.graph.nodes in
    let tree = (g.S.Site.world c.args.site.now).tree in
    seen_again new tree (g.S.Site.world c.swap_rules.new.site).tree (c.swap_rules.ensures.tree tells)
    (seen_alike c.args.graph.now.nodes new tree (c.in_ok-swap_rules.ensures.swapped).seen (c.requires.seen tells))

pub returns-clause-counted : goal.returns-clause-counted
returns-clause-counted g c = c.swap_rules.ensures.cause.steady (λ e. cc (c.in_ok-swap_rules.was, e))

pub returns-clause-reads : goal.returns-clause-reads
returns-clause-reads g c = λ tells first refreshed noted.
    reads_these first (g.S.Site.world c.args.site.now) c.args.graph.now.nodes noted (c.requires.seen tells) c.args.found c.in_ok-read.read refreshed (c.in_ok-read.ensures ∙ ap (map dir_of) c.as_slice-2.ensures)

-- ---- what it leaves of a site and keeps of it

pub returns-in_err-rules-clause-files : goal.returns-in_err-rules-clause-files
returns-in_err-rules-clause-files g c = λ tells. record { later = omega arith; tree = refl; known = refl }

pub returns-in_err-rules-clause-kept : goal.returns-in_err-rules-clause-kept
returns-in_err-rules-clause-kept g c = λ tells next first since refreshed noted kept. kept

pub returns-in_err-read-clause-files : goal.returns-in_err-read-clause-files
returns-in_err-read-clause-files g c = λ tells. record { later = omega arith; tree = refl; known = refl }

pub returns-in_err-read-clause-kept : goal.returns-in_err-read-clause-kept
returns-in_err-read-clause-kept g c = λ tells next first since refreshed noted kept. kept

pub returns-in_err-swap_rules-clause-files : goal.returns-in_err-swap_rules-clause-files
returns-in_err-swap_rules-clause-files g c = λ tells. record { later = (c.swap_rules.ensures.crash tells).on.later; tree = c.swap_rules.ensures.tree tells; known = c.swap_rules.ensures.known tells }

pub returns-in_err-swap_rules-clause-kept : goal.returns-in_err-swap_rules-clause-kept
returns-in_err-swap_rules-clause-kept g c = λ tells next first since refreshed noted kept.
    let site_laws = g.met.S.Site in
    let at = c.args.site.now in
    let graph = c.args.graph.now in
    let tree = (g.S.Site.world at).tree in
    let known = g.S.Site.known at in
    let found = c.args.found in
    let rules = c.as_slice-3.result.now in
    let is = subst (IsGraphOf (entries_in graph.table)) c.nodes.ensures.value (c.nodes.ensures.graph c.requires.fresh) in
    let linked = subst (λ (all : List (Names × Reading)). AreLinked all rules) c.as_slice.ensures (subst (AreLinked c.as_slice.result.now) (sym c.as_slice-3.ensures) c.in_ok-rules.ensures.linked) in
    let can = subst (λ (all : List (Names × Reading)). (sources : Tree) → IsOutcome sources (Ok all) → IsTree sources → IsBuildable sources rules) c.as_slice.ensures
    (subst (λ (l : List Rule). (sources : Tree) → IsOutcome sources (Ok c.as_slice.result.now) → IsTree sources → IsBuildable sources l) (sym c.as_slice-3.ensures) c.in_ok-rules.ensures.buildable) in
    let fits = fits_so known graph.nodes tree found rules (site_laws.knows_tree at tells) (site_laws.is_tree at tells) (c.requires.seen tells) refreshed linked can in
    let crash = c.swap_rules.ensures.crash tells in
    swapped_keeps g.S.Site tells site_laws.earlier site_laws.present next first since graph at c.swap_rules.new.site found.fresh found.gone rules
    (record { later = crash.on.later; tree = c.swap_rules.ensures.tree tells; known = c.swap_rules.ensures.known tells }) (c.requires.stands tells) is (c.requires.seen tells) fits
    (owned_still first (g.S.Site.world at) graph.nodes noted) crash kept

pub returns-clause-files : goal.returns-clause-files
returns-clause-files g c = λ tells. record { later = (c.swap_rules.ensures.crash tells).on.later; tree = c.swap_rules.ensures.tree tells; known = c.swap_rules.ensures.known tells }

pub returns-clause-kept : goal.returns-clause-kept
returns-clause-kept g c = λ tells next first since refreshed noted kept.
    let site_laws = g.met.S.Site in
    let at = c.args.site.now in
    let graph = c.args.graph.now in
    let tree = (g.S.Site.world at).tree in
    let known = g.S.Site.known at in
    let found = c.args.found in
    let rules = c.as_slice-3.result.now in
    let is = subst (IsGraphOf (entries_in graph.table)) c.nodes.ensures.value (c.nodes.ensures.graph c.requires.fresh) in
    let linked = subst (λ (all : List (Names × Reading)). AreLinked all rules) c.as_slice.ensures (subst (AreLinked c.as_slice.result.now) (sym c.as_slice-3.ensures) c.in_ok-rules.ensures.linked) in
    let can = subst (λ (all : List (Names × Reading)). (sources : Tree) → IsOutcome sources (Ok all) → IsTree sources → IsBuildable sources rules) c.as_slice.ensures
    (subst (λ (l : List Rule). (sources : Tree) → IsOutcome sources (Ok c.as_slice.result.now) → IsTree sources → IsBuildable sources l) (sym c.as_slice-3.ensures) c.in_ok-rules.ensures.buildable) in
    let fits = fits_so known graph.nodes tree found rules (site_laws.knows_tree at tells) (site_laws.is_tree at tells) (c.requires.seen tells) refreshed linked can in
    let crash = c.swap_rules.ensures.crash tells in
    swapped_keeps g.S.Site tells site_laws.earlier site_laws.present next first since graph at c.swap_rules.new.site found.fresh found.gone rules
    (record { later = crash.on.later; tree = c.swap_rules.ensures.tree tells; known = c.swap_rules.ensures.known tells }) (c.requires.stands tells) is (c.requires.seen tells) fits
    (owned_still first (g.S.Site.world at) graph.nodes noted) crash kept

pub returns-clause-brought : goal.returns-clause-brought
returns-clause-brought g c = λ tells next first since refreshed noted kept.
    let site_laws = g.met.S.Site in
    let at = c.args.site.now in
    let graph = c.args.graph.now in
    let tree = (g.S.Site.world at).tree in
    let known = g.S.Site.known at in
    let found = c.args.found in
    let rules = c.as_slice-3.result.now in
    let is = subst (IsGraphOf (entries_in graph.table)) c.nodes.ensures.value (c.nodes.ensures.graph c.requires.fresh) in
    let linked = subst (λ (all : List (Names × Reading)). AreLinked all rules) c.as_slice.ensures (subst (AreLinked c.as_slice.result.now) (sym c.as_slice-3.ensures) c.in_ok-rules.ensures.linked) in
    let can = subst (λ (all : List (Names × Reading)). (sources : Tree) → IsOutcome sources (Ok all) → IsTree sources → IsBuildable sources rules) c.as_slice.ensures
    (subst (λ (l : List Rule). (sources : Tree) → IsOutcome sources (Ok c.as_slice.result.now) → IsTree sources → IsBuildable sources l) (sym c.as_slice-3.ensures) c.in_ok-rules.ensures.buildable) in
    let fits = fits_so known graph.nodes tree found rules (site_laws.knows_tree at tells) (site_laws.is_tree at tells) (c.requires.seen tells) refreshed linked can in
    let stands = c.requires.stands tells in
    let seen = c.requires.seen tells in
    let same = same_sources g.S.Site tells site_laws.earlier site_laws.present next first since graph at stands is kept noted.was noted.stored in
    swap_brought first (g.S.Site.world at) graph.nodes noted next known
    (first_kept g.S.Site tells site_laws.earlier site_laws.present next first since graph at stands is kept noted.was noted.stored) seen found rules c.swap_rules.new.graph.nodes
    (subst (λ (sources : Tree). SeesSources sources graph.nodes) same (sees graph.nodes tree seen))
    (subst (λ (sources : Tree). IsRefresh graph.nodes sources (Ok found)) same refreshed) linked c.in_ok-swap_rules.ensures.swapped fits

-- ---- what stands in the store then stays within what a world had

pub returns-in_err-rules-clause-within : goal.returns-in_err-rules-clause-within
returns-in_err-rules-clause-within g c = λ tells next first since refreshed noted kept.
    let site_laws = g.met.S.Site in
    let at = c.args.site.now in
    let graph = c.args.graph.now in
    let stands = c.requires.stands tells in
    let is = subst (IsGraphOf (entries_in graph.table)) c.nodes.ensures.value (c.nodes.ensures.graph c.requires.fresh) in
    let was_kept = first_kept g.S.Site tells site_laws.earlier site_laws.present next first since graph at stands is kept noted.was noted.stored in
    let flags = c.flags_are_of_rules.ensures (entries_of noted.stored.commits) noted.was noted.stored.graph in
    let here = scan_within next (g.S.Site.known at) first noted.was graph.nodes (g.S.Site.world at).tree noted.stored noted.tree was_kept flags (finite.get first.tree tup_config) noted.scanned (c.requires.seen tells) in
    over_within g.S.Site tells site_laws.earlier site_laws.present first next first since graph at stands is kept here

pub returns-in_err-read-clause-within : goal.returns-in_err-read-clause-within
returns-in_err-read-clause-within g c = λ tells next first since refreshed noted kept.
    let site_laws = g.met.S.Site in
    let at = c.args.site.now in
    let graph = c.args.graph.now in
    let stands = c.requires.stands tells in
    let is = subst (IsGraphOf (entries_in graph.table)) c.nodes.ensures.value (c.nodes.ensures.graph c.requires.fresh) in
    let was_kept = first_kept g.S.Site tells site_laws.earlier site_laws.present next first since graph at stands is kept noted.was noted.stored in
    let flags = c.flags_are_of_rules.ensures (entries_of noted.stored.commits) noted.was noted.stored.graph in
    let here = scan_within next (g.S.Site.known at) first noted.was graph.nodes (g.S.Site.world at).tree noted.stored noted.tree was_kept flags (finite.get first.tree tup_config) noted.scanned (c.requires.seen tells) in
    over_within g.S.Site tells site_laws.earlier site_laws.present first next first since graph at stands is kept here

pub returns-in_err-swap_rules-clause-within : goal.returns-in_err-swap_rules-clause-within
returns-in_err-swap_rules-clause-within g c = λ tells next first since refreshed noted kept.
    let site_laws = g.met.S.Site in
    let at = c.args.site.now in
    let graph = c.args.graph.now in
    let stands = c.requires.stands tells in
    let is = subst (IsGraphOf (entries_in graph.table)) c.nodes.ensures.value (c.nodes.ensures.graph c.requires.fresh) in
    let was_kept = first_kept g.S.Site tells site_laws.earlier site_laws.present next first since graph at stands is kept noted.was noted.stored in
    let flags = c.flags_are_of_rules.ensures (entries_of noted.stored.commits) noted.was noted.stored.graph in
    let here = scan_within next (g.S.Site.known at) first noted.was graph.nodes (g.S.Site.world at).tree noted.stored noted.tree was_kept flags (finite.get first.tree tup_config) noted.scanned (c.requires.seen tells) in
    let tree = (g.S.Site.world at).tree in
    let known = g.S.Site.known at in
    let found = c.args.found in
    let rules = c.as_slice-3.result.now in
    let linked = subst (λ (all : List (Names × Reading)). AreLinked all rules) c.as_slice.ensures (subst (AreLinked c.as_slice.result.now) (sym c.as_slice-3.ensures) c.in_ok-rules.ensures.linked) in
    let can = subst (λ (all : List (Names × Reading)). (sources : Tree) → IsOutcome sources (Ok all) → IsTree sources → IsBuildable sources rules) c.as_slice.ensures
    (subst (λ (l : List Rule). (sources : Tree) → IsOutcome sources (Ok c.as_slice.result.now) → IsTree sources → IsBuildable sources l) (sym c.as_slice-3.ensures) c.in_ok-rules.ensures.buildable) in
    let fits = fits_so known graph.nodes tree found rules (site_laws.knows_tree at tells) (site_laws.is_tree at tells) (c.requires.seen tells) refreshed linked can in
    let same = same_sources g.S.Site tells site_laws.earlier site_laws.present next first since graph at stands is kept noted.was noted.stored in
    noted_within g.S.Site tells site_laws.earlier site_laws.present first graph.nodes (IsSwapped graph.nodes found.fresh found.gone rules) at c.swap_rules.new.site (c.swap_rules.ensures.crash tells) here
    (λ new swapped. swap_within known first noted.was graph.nodes new noted.stored noted.scanned.1.owned found.fresh found.gone rules fits swapped
    (swap_brought first (g.S.Site.world at) graph.nodes noted next known was_kept (c.requires.seen tells) found rules new
    (subst (λ (sources : Tree). SeesSources sources graph.nodes) same (sees graph.nodes tree (c.requires.seen tells)))
    (subst (λ (sources : Tree). IsRefresh graph.nodes sources (Ok found)) same refreshed) linked swapped fits))

pub returns-clause-within : goal.returns-clause-within
returns-clause-within g c = λ tells next first since refreshed noted kept.
    let site_laws = g.met.S.Site in
    let at = c.args.site.now in
    let graph = c.args.graph.now in
    let stands = c.requires.stands tells in
    let is = subst (IsGraphOf (entries_in graph.table)) c.nodes.ensures.value (c.nodes.ensures.graph c.requires.fresh) in
    let was_kept = first_kept g.S.Site tells site_laws.earlier site_laws.present next first since graph at stands is kept noted.was noted.stored in
    let flags = c.flags_are_of_rules.ensures (entries_of noted.stored.commits) noted.was noted.stored.graph in
    let here = scan_within next (g.S.Site.known at) first noted.was graph.nodes (g.S.Site.world at).tree noted.stored noted.tree was_kept flags (finite.get first.tree tup_config) noted.scanned (c.requires.seen tells) in
    let tree = (g.S.Site.world at).tree in
    let known = g.S.Site.known at in
    let found = c.args.found in
    let rules = c.as_slice-3.result.now in
    let linked = subst (λ (all : List (Names × Reading)). AreLinked all rules) c.as_slice.ensures (subst (AreLinked c.as_slice.result.now) (sym c.as_slice-3.ensures) c.in_ok-rules.ensures.linked) in
    let can = subst (λ (all : List (Names × Reading)). (sources : Tree) → IsOutcome sources (Ok all) → IsTree sources → IsBuildable sources rules) c.as_slice.ensures
    (subst (λ (l : List Rule). (sources : Tree) → IsOutcome sources (Ok c.as_slice.result.now) → IsTree sources → IsBuildable sources l) (sym c.as_slice-3.ensures) c.in_ok-rules.ensures.buildable) in
    let fits = fits_so known graph.nodes tree found rules (site_laws.knows_tree at tells) (site_laws.is_tree at tells) (c.requires.seen tells) refreshed linked can in
    let same = same_sources g.S.Site tells site_laws.earlier site_laws.present next first since graph at stands is kept noted.was noted.stored in
    noted_within g.S.Site tells site_laws.earlier site_laws.present first graph.nodes (IsSwapped graph.nodes found.fresh found.gone rules) at c.swap_rules.new.site (c.swap_rules.ensures.crash tells) here
    (λ new swapped. swap_within known first noted.was graph.nodes new noted.stored noted.scanned.1.owned found.fresh found.gone rules fits swapped
    (swap_brought first (g.S.Site.world at) graph.nodes noted next known was_kept (c.requires.seen tells) found rules new
    (subst (λ (sources : Tree). SeesSources sources graph.nodes) same (sees graph.nodes tree (c.requires.seen tells)))
    (subst (λ (sources : Tree). IsRefresh graph.nodes sources (Ok found)) same refreshed) linked swapped fits))

-- ---- what the sources are blamed for

pub returns-in_err-rules-clause-blame : goal.returns-in_err-rules-clause-blame
returns-in_err-rules-clause-blame g c = λ tells next first since refreshed noted kept.
    let site_laws = g.met.S.Site in
    let at = c.args.site.now in
    let graph = c.args.graph.now in
    let found = c.args.found in
    let fault = c.in_err-rules.field-0.0 in
    let sources = sources_of graph.nodes (g.S.Site.world at).tree in
    let is = subst (IsGraphOf (entries_in graph.table)) c.nodes.ensures.value (c.nodes.ensures.graph c.requires.fresh) in
    let outcome = subst (λ (all : List (Names × Reading)). IsOutcome sources (Ok all)) (sym c.as_slice.ensures) (refreshed_read graph.nodes sources (Ok found) refreshed) in
    err_if c.from_residual.result (stop_of_project fault) (BlamesSources first) c.from_residual.ensures.1
    (link_blames first noted.was noted.stored fault
    (subst (λ (sources : Tree). ComeTo sources (Err fault)) (same_sources g.S.Site tells site_laws.earlier site_laws.present next first since graph at (c.requires.stands tells) is kept noted.was noted.stored)
    (c.in_err-rules.ensures.fault sources outcome)))

pub returns-in_err-read-clause-blame : goal.returns-in_err-read-clause-blame
returns-in_err-read-clause-blame g c = λ tells next first since refreshed noted kept. err_if c.from_residual-in_err-read.result no_memory (BlamesSources first) c.from_residual-in_err-read.ensures.1 tt

pub returns-in_err-swap_rules-clause-blame : goal.returns-in_err-swap_rules-clause-blame
returns-in_err-swap_rules-clause-blame g c = λ tells next first since refreshed noted kept.
    let fault = c.in_err-swap_rules.field-0.0 in
    err_if c.from_residual-in_err-swap_rules.result (stop_of_graph fault) (BlamesSources first) c.from_residual-in_err-swap_rules.ensures.1 (graph_blames first fault)

-- ---- what is owned

pub returns-in_err-rules-clause-owns : goal.returns-in_err-rules-clause-owns
returns-in_err-rules-clause-owns g c = λ tells next since begun refreshed noted kept owns. owns

pub returns-in_err-read-clause-owns : goal.returns-in_err-read-clause-owns
returns-in_err-read-clause-owns g c = λ tells next since begun refreshed noted kept owns. owns

pub returns-in_err-swap_rules-clause-owns : goal.returns-in_err-swap_rules-clause-owns
returns-in_err-swap_rules-clause-owns g c = λ tells next since begun refreshed noted kept owns.
    let first = g.S.Site.world begun in
    let site_laws = g.met.S.Site in
    let at = c.args.site.now in
    let graph = c.args.graph.now in
    let stands = c.requires.stands tells in
    let is = subst (IsGraphOf (entries_in graph.table)) c.nodes.ensures.value (c.nodes.ensures.graph c.requires.fresh) in
    let was_kept = first_kept g.S.Site tells site_laws.earlier site_laws.present next first since graph at stands is kept noted.was noted.stored in
    let tree = (g.S.Site.world at).tree in
    let known = g.S.Site.known at in
    let found = c.args.found in
    let rules = c.as_slice-3.result.now in
    let linked = subst (λ (all : List (Names × Reading)). AreLinked all rules) c.as_slice.ensures (subst (AreLinked c.as_slice.result.now) (sym c.as_slice-3.ensures) c.in_ok-rules.ensures.linked) in
    let can = subst (λ (all : List (Names × Reading)). (sources : Tree) → IsOutcome sources (Ok all) → IsTree sources → IsBuildable sources rules) c.as_slice.ensures
    (subst (λ (l : List Rule). (sources : Tree) → IsOutcome sources (Ok c.as_slice.result.now) → IsTree sources → IsBuildable sources l) (sym c.as_slice-3.ensures) c.in_ok-rules.ensures.buildable) in
    let fits = fits_so known graph.nodes tree found rules (site_laws.knows_tree at tells) (site_laws.is_tree at tells) (c.requires.seen tells) refreshed linked can in
    let same = same_sources g.S.Site tells site_laws.earlier site_laws.present next first since graph at stands is kept noted.was noted.stored in
    let stored = stored_over g.S.Site tells site_laws.earlier site_laws.present graph at stands is in
    noted_owns g.S.Site tells site_laws.earlier site_laws.present begun since at c.swap_rules.new.site kept.began owns graph.nodes stored (IsSwapped graph.nodes found.fresh found.gone rules) (c.swap_rules.ensures.crash tells)
    (λ new swapped path mine. ⊎_elim (own_here g.S.Site tells site_laws.earlier site_laws.present begun since at c.swap_rules.new.site kept.began owns graph.nodes stored path) inr
    (swap_owned known graph.nodes new found.fresh found.gone rules fits swapped first
    (swap_brought first (g.S.Site.world at) graph.nodes noted next known was_kept (c.requires.seen tells) found rules new
    (subst (λ (sources : Tree). SeesSources sources graph.nodes) same (sees graph.nodes tree (c.requires.seen tells)))
    (subst (λ (sources : Tree). IsRefresh graph.nodes sources (Ok found)) same refreshed) linked swapped fits) path mine))

pub returns-clause-owns : goal.returns-clause-owns
returns-clause-owns g c = λ tells next since begun refreshed noted kept owns.
    let first = g.S.Site.world begun in
    let site_laws = g.met.S.Site in
    let at = c.args.site.now in
    let graph = c.args.graph.now in
    let stands = c.requires.stands tells in
    let is = subst (IsGraphOf (entries_in graph.table)) c.nodes.ensures.value (c.nodes.ensures.graph c.requires.fresh) in
    let was_kept = first_kept g.S.Site tells site_laws.earlier site_laws.present next first since graph at stands is kept noted.was noted.stored in
    let tree = (g.S.Site.world at).tree in
    let known = g.S.Site.known at in
    let found = c.args.found in
    let rules = c.as_slice-3.result.now in
    let linked = subst (λ (all : List (Names × Reading)). AreLinked all rules) c.as_slice.ensures (subst (AreLinked c.as_slice.result.now) (sym c.as_slice-3.ensures) c.in_ok-rules.ensures.linked) in
    let can = subst (λ (all : List (Names × Reading)). (sources : Tree) → IsOutcome sources (Ok all) → IsTree sources → IsBuildable sources rules) c.as_slice.ensures
    (subst (λ (l : List Rule). (sources : Tree) → IsOutcome sources (Ok c.as_slice.result.now) → IsTree sources → IsBuildable sources l) (sym c.as_slice-3.ensures) c.in_ok-rules.ensures.buildable) in
    let fits = fits_so known graph.nodes tree found rules (site_laws.knows_tree at tells) (site_laws.is_tree at tells) (c.requires.seen tells) refreshed linked can in
    let same = same_sources g.S.Site tells site_laws.earlier site_laws.present next first since graph at stands is kept noted.was noted.stored in
    let stored = stored_over g.S.Site tells site_laws.earlier site_laws.present graph at stands is in
    noted_owns g.S.Site tells site_laws.earlier site_laws.present begun since at c.swap_rules.new.site kept.began owns graph.nodes stored (IsSwapped graph.nodes found.fresh found.gone rules) (c.swap_rules.ensures.crash tells)
    (λ new swapped path mine. ⊎_elim (own_here g.S.Site tells site_laws.earlier site_laws.present begun since at c.swap_rules.new.site kept.began owns graph.nodes stored path) inr
    (swap_owned known graph.nodes new found.fresh found.gone rules fits swapped first
    (swap_brought first (g.S.Site.world at) graph.nodes noted next known was_kept (c.requires.seen tells) found rules new
    (subst (λ (sources : Tree). SeesSources sources graph.nodes) same (sees graph.nodes tree (c.requires.seen tells)))
    (subst (λ (sources : Tree). IsRefresh graph.nodes sources (Ok found)) same refreshed) linked swapped fits) path mine))

-- ---- what a crash may leave of files

pub returns-in_err-rules-clause-trees : goal.returns-in_err-rules-clause-trees
returns-in_err-rules-clause-trees g c = λ tells. at_rest g.S.Site.moment g.S.Site.left_since c.args.site.now TreeStays

pub returns-in_err-read-clause-trees : goal.returns-in_err-read-clause-trees
returns-in_err-read-clause-trees g c = λ tells. at_rest g.S.Site.moment g.S.Site.left_since c.args.site.now TreeStays

pub returns-in_err-swap_rules-clause-trees : goal.returns-in_err-swap_rules-clause-trees
returns-in_err-swap_rules-clause-trees g c = λ tells.
    let site_laws = g.met.S.Site in
    let found = c.args.found in
    trees_by g.S.Site tells site_laws.earlier site_laws.present c.args.site.now c.swap_rules.new.site (NoteStep c.args.graph.now.nodes (IsSwapped c.args.graph.now.nodes found.fresh found.gone c.as_slice-3.result.now)) (λ v w step. step.tree)
    (c.swap_rules.ensures.crash tells).on

pub returns-clause-trees : goal.returns-clause-trees
returns-clause-trees g c = λ tells.
    let site_laws = g.met.S.Site in
    let found = c.args.found in
    trees_by g.S.Site tells site_laws.earlier site_laws.present c.args.site.now c.swap_rules.new.site (NoteStep c.args.graph.now.nodes (IsSwapped c.args.graph.now.nodes found.fresh found.gone c.as_slice-3.result.now)) (λ v w step. step.tree)
    (c.swap_rules.ensures.crash tells).on

-- ---- what a store lacks room for that is said to be full

pub returns-in_err-rules-clause-full : goal.returns-in_err-rules-clause-full
returns-in_err-rules-clause-full g c = λ tells refreshed.
    let fault = c.in_err-rules.field-0.0 in
    let now = g.S.Site.world c.args.site.now in
    err_if c.from_residual.result (stop_of_project fault) (FillsStore now) c.from_residual.ensures.1 (link_fills now fault)

pub returns-in_err-read-clause-full : goal.returns-in_err-read-clause-full
returns-in_err-read-clause-full g c = λ tells refreshed. err_if c.from_residual-in_err-read.result no_memory (FillsStore (g.S.Site.world c.args.site.now)) c.from_residual-in_err-read.ensures.1 tt

pub returns-in_err-swap_rules-clause-full : goal.returns-in_err-swap_rules-clause-full
returns-in_err-swap_rules-clause-full g c = λ tells refreshed.
    let fault = c.in_err-swap_rules.field-0.0 in
    let at = c.args.site.now in
    let graph = c.args.graph.now in
    let rules = c.as_slice-3.result.now in
    let found = c.args.found in
    let is = subst (IsGraphOf (entries_in graph.table)) c.nodes.ensures.value (c.nodes.ensures.graph c.requires.fresh) in
    let linked = subst (λ (all : List (Names × Reading)). AreLinked all rules) c.as_slice.ensures (subst (AreLinked c.as_slice.result.now) (sym c.as_slice-3.ensures) c.in_ok-rules.ensures.linked) in
    err_if c.from_residual-in_err-swap_rules.result (stop_of_graph fault) (FillsStore (g.S.Site.world c.swap_rules.new.site)) c.from_residual-in_err-swap_rules.ensures.1
    (note_fills g.S.Site graph at (c.requires.stands tells) is (AreSwapEdits graph.nodes found.fresh found.gone rules) c.swap_rules.new.graph c.swap_rules.new.site c.swap_rules.result fault c.in_err-swap_rules.was c.swap_rules.ensures.swaps
    (λ edits are. inr (inl (found, rules, refreshed, linked, are))))
