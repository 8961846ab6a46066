use Rattle.std.proofs.Common.{◌≤◌, ◌∙◌, Some, subst, sym, arith, refl}
use Rattle.tup_site.specs.Crash.{NoStep}
use Rattle.tup_table.specs.Table.{entries_in}
use Rattle.tup_graph.specs.Opening.{IsGraphOf}
use Rattle.tup_promise.specs.Cause.{HasCountedCause}
use Rattle.tup_promise.specs.Stopped.{stop_of_graph}
use Rattle.tup_promise.specs.declared.stop.Stop.TheVariants.{Outside}
use Rattle.tup_promise.proofs.Handed.{err_if, err_so}
use Rattle.tup_phases.specs.Kept.{BlamesSources, HoldsWithin}
use Rattle.tup_phases.specs.Prepared.{StopsReading}
use Rattle.tup_phases.proofs.Blaming.{graph_blames, site_blames}
use Rattle.tup_phases.proofs.Keeping.{files_both, files_read, since_read, trees_both, trees_by}
use Rattle.tup_phases.proofs.Owning.{read_owns}
use Rattle.tup_phases.proofs.Stopping.{counted_before, graph_counted, site_counted}
use Rattle.tup_phases.proofs.Tidying.{tidied_keeps, tidied_owns, tidied_trees, tidied_within, tidying_reads, untouched}
use Rattle.tup_phases.specs.Room.{FillsStore}
use Rattle.tup_phases.proofs.Filling.{outside_fills}
use Rattle.tup_phases.proofs.surveying.tidied.Goals as goal

-- ---- nothing is to be done

pub returns-then-not-compacts-clause-files : goal.returns-then-not-compacts-clause-files
returns-then-not-compacts-clause-files g c = λ tells.
    record { later = omega arith; tree = refl; known = refl }

pub returns-then-not-compacts-clause-trees : goal.returns-then-not-compacts-clause-trees
returns-then-not-compacts-clause-trees g c = λ tells.
    let site_laws = g.met.S.Site in
    let old = c.args.site.now in
    let graph = c.args.graph.now in
    let is = subst (IsGraphOf (entries_in graph.table)) c.nodes.ensures.value (c.nodes.ensures.graph c.requires.fresh) in
    tidied_trees g.S.Site tells site_laws.earlier site_laws.present graph old (c.requires.stands tells) is old (untouched g.S.Site tells site_laws.earlier site_laws.present graph old (c.requires.stands tells) is)

pub returns-then-not-compacts-clause-kept : goal.returns-then-not-compacts-clause-kept
returns-then-not-compacts-clause-kept g c = λ tells.
    let site_laws = g.met.S.Site in
    let old = c.args.site.now in
    let graph = c.args.graph.now in
    let is = subst (IsGraphOf (entries_in graph.table)) c.nodes.ensures.value (c.nodes.ensures.graph c.requires.fresh) in
    tidied_keeps g.S.Site tells site_laws.earlier site_laws.present graph old (c.requires.stands tells) is old (untouched g.S.Site tells site_laws.earlier site_laws.present graph old (c.requires.stands tells) is)
    (record { later = omega arith; tree = refl; known = refl })

pub returns-then-not-compacts-clause-within : goal.returns-then-not-compacts-clause-within
returns-then-not-compacts-clause-within g c = λ tells first stored.
    let site_laws = g.met.S.Site in
    let old = c.args.site.now in
    let graph = c.args.graph.now in
    let is = subst (IsGraphOf (entries_in graph.table)) c.nodes.ensures.value (c.nodes.ensures.graph c.requires.fresh) in
    tidied_within g.S.Site tells site_laws.earlier site_laws.present graph old (c.requires.stands tells) is old (untouched g.S.Site tells site_laws.earlier site_laws.present graph old (c.requires.stands tells) is) first (c.flags_are_of_rules.ensures (entries_in graph.table) graph.nodes is) stored

pub returns-then-not-compacts-clause-owns : goal.returns-then-not-compacts-clause-owns
returns-then-not-compacts-clause-owns g c = λ tells.
    let site_laws = g.met.S.Site in
    let old = c.args.site.now in
    let graph = c.args.graph.now in
    let is = subst (IsGraphOf (entries_in graph.table)) c.nodes.ensures.value (c.nodes.ensures.graph c.requires.fresh) in
    tidied_owns g.S.Site tells site_laws.earlier site_laws.present graph old (c.requires.stands tells) is old (untouched g.S.Site tells site_laws.earlier site_laws.present graph old (c.requires.stands tells) is)

-- ---- the store's length isn't told

pub returns-in_err-len-clause-files : goal.returns-in_err-len-clause-files
returns-in_err-len-clause-files g c = λ tells. files_read g.S.Site c.args.site.now c.db_len.new.self (c.db_len.ensures.same tells) (c.db_len.ensures.crash tells) (c.db_len.ensures.known tells)

pub returns-in_err-len-clause-trees : goal.returns-in_err-len-clause-trees
returns-in_err-len-clause-trees g c = λ tells.
    let site_laws = g.met.S.Site in
    trees_by g.S.Site tells site_laws.earlier site_laws.present c.args.site.now c.db_len.new.self NoStep (λ v w none. absurd none) (c.db_len.ensures.crash tells)

pub returns-in_err-len-clause-kept : goal.returns-in_err-len-clause-kept
returns-in_err-len-clause-kept g c = λ tells next first since kept.
    let old = c.args.site.now in
    let mid = c.db_len.new.self in
    let crash = c.db_len.ensures.crash tells in
    since_read g.S.Site next first since old mid (files_read g.S.Site old mid (c.db_len.ensures.same tells) crash (c.db_len.ensures.known tells)) crash kept

pub returns-in_err-len-clause-within : goal.returns-in_err-len-clause-within
returns-in_err-len-clause-within g c = λ tells first stored.
    let site_laws = g.met.S.Site in
    let old = c.args.site.now in
    let graph = c.args.graph.now in
    let is = subst (IsGraphOf (entries_in graph.table)) c.nodes.ensures.value (c.nodes.ensures.graph c.requires.fresh) in
    subst (HoldsWithin first) (sym (c.db_len.ensures.same tells))
    (tidied_within g.S.Site tells site_laws.earlier site_laws.present graph old (c.requires.stands tells) is old (untouched g.S.Site tells site_laws.earlier site_laws.present graph old (c.requires.stands tells) is) first (c.flags_are_of_rules.ensures (entries_in graph.table) graph.nodes is) stored)

pub returns-in_err-len-clause-owns : goal.returns-in_err-len-clause-owns
returns-in_err-len-clause-owns g c = λ tells.
    let site_laws = g.met.S.Site in
    read_owns g.S.Site tells site_laws.earlier site_laws.present c.args.site.now c.db_len.new.self (c.db_len.ensures.crash tells)

pub returns-in_err-len-clause-blame : goal.returns-in_err-len-clause-blame
returns-in_err-len-clause-blame g c = λ first.
    let fault = c.in_err-len.field-0.0 in
    err_if c.from_residual.result (Outside fault) (BlamesSources first) c.from_residual.ensures.1 (site_blames first c.db_len.result fault c.in_err-len.was c.db_len.ensures.never_too_large)

pub returns-in_err-len-clause-stops : goal.returns-in_err-len-clause-stops
returns-in_err-len-clause-stops g c =
    err_if c.from_residual.result (Outside c.in_err-len.field-0.0) StopsReading c.from_residual.ensures.1 tt

pub returns-in_err-len-clause-counted : goal.returns-in_err-len-clause-counted
returns-in_err-len-clause-counted g c =
    let fault = c.in_err-len.field-0.0 in
    let before = g.S.Site.faults c.args.site.now in
    let now = g.S.Site.faults c.db_len.new.self in
    err_so c.from_residual.result (Outside fault) (HasCountedCause before now) c.from_residual.ensures.1 (site_counted before now c.db_len.result fault c.in_err-len.was c.db_len.ensures.cause c.db_len.ensures.never_too_large)

-- ---- the store isn't sparse

pub returns-then-not-is_sparse-clause-stands : goal.returns-then-not-is_sparse-clause-stands
returns-then-not-is_sparse-clause-stands g c = λ tells.
    c.reads_keep_graphs.ensures c.args.graph.now c.db_len.new.self tells (c.db_len.ensures.same tells) (c.db_len.ensures.crash tells) (c.requires.stands tells)

pub returns-then-not-is_sparse-clause-files : goal.returns-then-not-is_sparse-clause-files
returns-then-not-is_sparse-clause-files g c = λ tells. files_read g.S.Site c.args.site.now c.db_len.new.self (c.db_len.ensures.same tells) (c.db_len.ensures.crash tells) (c.db_len.ensures.known tells)

pub returns-then-not-is_sparse-clause-trees : goal.returns-then-not-is_sparse-clause-trees
returns-then-not-is_sparse-clause-trees g c = λ tells.
    let site_laws = g.met.S.Site in
    trees_by g.S.Site tells site_laws.earlier site_laws.present c.args.site.now c.db_len.new.self NoStep (λ v w none. absurd none) (c.db_len.ensures.crash tells)

pub returns-then-not-is_sparse-clause-kept : goal.returns-then-not-is_sparse-clause-kept
returns-then-not-is_sparse-clause-kept g c = λ tells next first since kept.
    let old = c.args.site.now in
    let mid = c.db_len.new.self in
    let crash = c.db_len.ensures.crash tells in
    since_read g.S.Site next first since old mid (files_read g.S.Site old mid (c.db_len.ensures.same tells) crash (c.db_len.ensures.known tells)) crash kept

pub returns-then-not-is_sparse-clause-within : goal.returns-then-not-is_sparse-clause-within
returns-then-not-is_sparse-clause-within g c = λ tells first stored.
    let site_laws = g.met.S.Site in
    let old = c.args.site.now in
    let graph = c.args.graph.now in
    let is = subst (IsGraphOf (entries_in graph.table)) c.nodes.ensures.value (c.nodes.ensures.graph c.requires.fresh) in
    subst (HoldsWithin first) (sym (c.db_len.ensures.same tells))
    (tidied_within g.S.Site tells site_laws.earlier site_laws.present graph old (c.requires.stands tells) is old (untouched g.S.Site tells site_laws.earlier site_laws.present graph old (c.requires.stands tells) is) first (c.flags_are_of_rules.ensures (entries_in graph.table) graph.nodes is) stored)

pub returns-then-not-is_sparse-clause-owns : goal.returns-then-not-is_sparse-clause-owns
returns-then-not-is_sparse-clause-owns g c = λ tells.
    let site_laws = g.met.S.Site in
    read_owns g.S.Site tells site_laws.earlier site_laws.present c.args.site.now c.db_len.new.self (c.db_len.ensures.crash tells)

pub returns-then-not-is_sparse-clause-counted : goal.returns-then-not-is_sparse-clause-counted
returns-then-not-is_sparse-clause-counted g c = c.db_len.ensures.cause.steady (λ e. cc (c.in_ok-len.was, e))

-- ---- compacting failed

pub compact-requires-clause-stands : goal.compact-requires-clause-stands
compact-requires-clause-stands g c = λ tells.
    c.reads_keep_graphs.ensures c.args.graph.now c.db_len.new.self tells (c.db_len.ensures.same tells) (c.db_len.ensures.crash tells) (c.requires.stands tells)

pub returns-in_err-compact-clause-files : goal.returns-in_err-compact-clause-files
returns-in_err-compact-clause-files g c = λ tells.
    let old = c.args.site.now in
    let mid = c.db_len.new.self in
    files_both g.S.Site old mid c.compact.new.site (files_read g.S.Site old mid (c.db_len.ensures.same tells) (c.db_len.ensures.crash tells) (c.db_len.ensures.known tells))
    (record { later = (c.compact.ensures.crash tells).on.later; tree = c.compact.ensures.tree tells; known = c.compact.ensures.known tells })

pub returns-in_err-compact-clause-trees : goal.returns-in_err-compact-clause-trees
returns-in_err-compact-clause-trees g c = λ tells.
    let site_laws = g.met.S.Site in
    let old = c.args.site.now in
    let mid = c.db_len.new.self in
    let graph = c.args.graph.now in
    let same = c.db_len.ensures.same tells in
    let crash = c.db_len.ensures.crash tells in
    let stands = c.reads_keep_graphs.ensures graph mid tells same crash (c.requires.stands tells) in
    let is = subst (IsGraphOf (entries_in graph.table)) c.nodes.ensures.value (c.nodes.ensures.graph c.requires.fresh) in
    trees_both g.S.Site tells site_laws.earlier site_laws.present old mid c.compact.new.site (trees_by g.S.Site tells site_laws.earlier site_laws.present old mid NoStep (λ v w none. absurd none) crash)
    (tidied_trees g.S.Site tells site_laws.earlier site_laws.present graph mid stands is c.compact.new.site (c.compact.ensures.crash tells))

pub returns-in_err-compact-clause-kept : goal.returns-in_err-compact-clause-kept
returns-in_err-compact-clause-kept g c = λ tells next first since kept.
    let site_laws = g.met.S.Site in
    let old = c.args.site.now in
    let mid = c.db_len.new.self in
    let graph = c.args.graph.now in
    let same = c.db_len.ensures.same tells in
    let crash = c.db_len.ensures.crash tells in
    let stands = c.reads_keep_graphs.ensures graph mid tells same crash (c.requires.stands tells) in
    let is = subst (IsGraphOf (entries_in graph.table)) c.nodes.ensures.value (c.nodes.ensures.graph c.requires.fresh) in
    tidied_keeps g.S.Site tells site_laws.earlier site_laws.present graph mid stands is c.compact.new.site (c.compact.ensures.crash tells)
    (record { later = (c.compact.ensures.crash tells).on.later; tree = c.compact.ensures.tree tells; known = c.compact.ensures.known tells }) next first since
    (since_read g.S.Site next first since old mid (files_read g.S.Site old mid same crash (c.db_len.ensures.known tells)) crash kept)

pub returns-in_err-compact-clause-within : goal.returns-in_err-compact-clause-within
returns-in_err-compact-clause-within g c = λ tells first stored.
    let site_laws = g.met.S.Site in
    let mid = c.db_len.new.self in
    let graph = c.args.graph.now in
    let same = c.db_len.ensures.same tells in
    let crash = c.db_len.ensures.crash tells in
    let stands = c.reads_keep_graphs.ensures graph mid tells same crash (c.requires.stands tells) in
    let is = subst (IsGraphOf (entries_in graph.table)) c.nodes.ensures.value (c.nodes.ensures.graph c.requires.fresh) in
    tidied_within g.S.Site tells site_laws.earlier site_laws.present graph mid stands is c.compact.new.site (c.compact.ensures.crash tells) first (c.flags_are_of_rules.ensures (entries_in graph.table) graph.nodes is) stored

pub returns-in_err-compact-clause-owns : goal.returns-in_err-compact-clause-owns
returns-in_err-compact-clause-owns g c = λ tells begun since within owns.
    let site_laws = g.met.S.Site in
    let old = c.args.site.now in
    let mid = c.db_len.new.self in
    let graph = c.args.graph.now in
    let same = c.db_len.ensures.same tells in
    let crash = c.db_len.ensures.crash tells in
    let stands = c.reads_keep_graphs.ensures graph mid tells same crash (c.requires.stands tells) in
    let is = subst (IsGraphOf (entries_in graph.table)) c.nodes.ensures.value (c.nodes.ensures.graph c.requires.fresh) in
    let later = crash.later in
    let there : since ≤ g.S.Site.moment mid = omega (arith, within, later) in
    tidied_owns g.S.Site tells site_laws.earlier site_laws.present graph mid stands is c.compact.new.site (c.compact.ensures.crash tells) begun since there (read_owns g.S.Site tells site_laws.earlier site_laws.present old mid crash begun since within owns)

pub returns-in_err-compact-clause-blame : goal.returns-in_err-compact-clause-blame
returns-in_err-compact-clause-blame g c = λ first.
    let fault = c.in_err-compact.field-0.0 in
    err_if c.from_residual-in_err-compact.result (stop_of_graph fault) (BlamesSources first) c.from_residual-in_err-compact.ensures.1 (graph_blames first fault)

pub returns-in_err-compact-clause-stops : goal.returns-in_err-compact-clause-stops
returns-in_err-compact-clause-stops g c =
    let fault = c.in_err-compact.field-0.0 in
    err_if c.from_residual-in_err-compact.result (stop_of_graph fault) StopsReading c.from_residual-in_err-compact.ensures.1 (tidying_reads fault c.in_err-compact.ensures.outside)

pub returns-in_err-compact-clause-counted : goal.returns-in_err-compact-clause-counted
returns-in_err-compact-clause-counted g c =
    let fault = c.in_err-compact.field-0.0 in
    let first = g.S.Site.faults c.args.site.now in
    let before = g.S.Site.faults c.db_len.new.self in
    let now = g.S.Site.faults c.compact.new.site in
    let same = c.db_len.ensures.cause.steady (λ e. cc (c.in_ok-len.was, e)) in
    err_so c.from_residual-in_err-compact.result (stop_of_graph fault) (HasCountedCause first now) c.from_residual-in_err-compact.ensures.1
    (counted_before first before now (Some (stop_of_graph fault)) same (graph_counted before now c.compact.result fault c.in_err-compact.was c.compact.ensures.cause))

-- ---- it is compacted

pub returns-clause-files : goal.returns-clause-files
returns-clause-files g c = λ tells.
    let old = c.args.site.now in
    let mid = c.db_len.new.self in
    files_both g.S.Site old mid c.compact.new.site (files_read g.S.Site old mid (c.db_len.ensures.same tells) (c.db_len.ensures.crash tells) (c.db_len.ensures.known tells))
    (record { later = (c.compact.ensures.crash tells).on.later; tree = c.compact.ensures.tree tells; known = c.compact.ensures.known tells })

pub returns-clause-trees : goal.returns-clause-trees
returns-clause-trees g c = λ tells.
    let site_laws = g.met.S.Site in
    let old = c.args.site.now in
    let mid = c.db_len.new.self in
    let graph = c.args.graph.now in
    let same = c.db_len.ensures.same tells in
    let crash = c.db_len.ensures.crash tells in
    let stands = c.reads_keep_graphs.ensures graph mid tells same crash (c.requires.stands tells) in
    let is = subst (IsGraphOf (entries_in graph.table)) c.nodes.ensures.value (c.nodes.ensures.graph c.requires.fresh) in
    trees_both g.S.Site tells site_laws.earlier site_laws.present old mid c.compact.new.site (trees_by g.S.Site tells site_laws.earlier site_laws.present old mid NoStep (λ v w none. absurd none) crash)
    (tidied_trees g.S.Site tells site_laws.earlier site_laws.present graph mid stands is c.compact.new.site (c.compact.ensures.crash tells))

pub returns-clause-kept : goal.returns-clause-kept
returns-clause-kept g c = λ tells next first since kept.
    let site_laws = g.met.S.Site in
    let old = c.args.site.now in
    let mid = c.db_len.new.self in
    let graph = c.args.graph.now in
    let same = c.db_len.ensures.same tells in
    let crash = c.db_len.ensures.crash tells in
    let stands = c.reads_keep_graphs.ensures graph mid tells same crash (c.requires.stands tells) in
    let is = subst (IsGraphOf (entries_in graph.table)) c.nodes.ensures.value (c.nodes.ensures.graph c.requires.fresh) in
    tidied_keeps g.S.Site tells site_laws.earlier site_laws.present graph mid stands is c.compact.new.site (c.compact.ensures.crash tells)
    (record { later = (c.compact.ensures.crash tells).on.later; tree = c.compact.ensures.tree tells; known = c.compact.ensures.known tells }) next first since
    (since_read g.S.Site next first since old mid (files_read g.S.Site old mid same crash (c.db_len.ensures.known tells)) crash kept)

pub returns-clause-within : goal.returns-clause-within
returns-clause-within g c = λ tells first stored.
    let site_laws = g.met.S.Site in
    let mid = c.db_len.new.self in
    let graph = c.args.graph.now in
    let same = c.db_len.ensures.same tells in
    let crash = c.db_len.ensures.crash tells in
    let stands = c.reads_keep_graphs.ensures graph mid tells same crash (c.requires.stands tells) in
    let is = subst (IsGraphOf (entries_in graph.table)) c.nodes.ensures.value (c.nodes.ensures.graph c.requires.fresh) in
    tidied_within g.S.Site tells site_laws.earlier site_laws.present graph mid stands is c.compact.new.site (c.compact.ensures.crash tells) first (c.flags_are_of_rules.ensures (entries_in graph.table) graph.nodes is) stored

pub returns-clause-owns : goal.returns-clause-owns
returns-clause-owns g c = λ tells begun since within owns.
    let site_laws = g.met.S.Site in
    let old = c.args.site.now in
    let mid = c.db_len.new.self in
    let graph = c.args.graph.now in
    let same = c.db_len.ensures.same tells in
    let crash = c.db_len.ensures.crash tells in
    let stands = c.reads_keep_graphs.ensures graph mid tells same crash (c.requires.stands tells) in
    let is = subst (IsGraphOf (entries_in graph.table)) c.nodes.ensures.value (c.nodes.ensures.graph c.requires.fresh) in
    let later = crash.later in
    let there : since ≤ g.S.Site.moment mid = omega (arith, within, later) in
    tidied_owns g.S.Site tells site_laws.earlier site_laws.present graph mid stands is c.compact.new.site (c.compact.ensures.crash tells) begun since there (read_owns g.S.Site tells site_laws.earlier site_laws.present old mid crash begun since within owns)

pub returns-clause-counted : goal.returns-clause-counted
returns-clause-counted g c =
    c.compact.ensures.cause.steady (λ e. cc (c.in_ok-compact.was, e)) ∙ c.db_len.ensures.cause.steady (λ e. cc (c.in_ok-len.was, e))

-- ---- what a store lacks room for that is said to be full

pub returns-in_err-len-clause-full : goal.returns-in_err-len-clause-full
returns-in_err-len-clause-full g c = λ w. err_if c.from_residual.result (Outside c.in_err-len.field-0.0) (FillsStore w) c.from_residual.ensures.1 tt

pub returns-in_err-compact-clause-full : goal.returns-in_err-compact-clause-full
returns-in_err-compact-clause-full g c = λ w.
    let fault = c.in_err-compact.field-0.0 in
    err_if c.from_residual-in_err-compact.result (stop_of_graph fault) (FillsStore w) c.from_residual-in_err-compact.ensures.1 (outside_fills w fault c.in_err-compact.ensures.outside)
