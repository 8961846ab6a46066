use Rattle.std.proofs.Common.{◌≡◌, ◌≤◌, arith, sym, subst, ◌∙◌, IfOk}
use Rattle.std.specs.Result.{result_err}
use Rattle.std.specs.FinMap as finite
use Rattle.tup_path.specs.Tree.{Tree}
use Rattle.tup_scan.specs.Cause.{IsWithinLimits}
use Rattle.tup_graph.specs.Answers.{tup_config}
use Rattle.tup_graph.specs.Graph.{GraphState}
use Rattle.tup_graph.specs.Kept.{IsGraphIn}
use Rattle.tup_promise.specs.Cause.{HasCountedCause}
use Rattle.tup_promise.proofs.Handed.{err_if, err_so}
use Rattle.tup_promise.specs.Did.{IsScannedFrom}
use Rattle.tup_phases.specs.Kept.{BlamesSources}
use Rattle.tup_phases.specs.Prepared.{StopsReading}
use Rattle.tup_phases.proofs.Keeping.{files_both, trees_both}
use Rattle.tup_phases.proofs.Stopping.{counted_before}
use Rattle.tup_phases.specs.Room.{FillsStore}
use Rattle.tup_phases.proofs.surveying.noted.Goals as goal

-- ---- the store wasn't compacted

pub returns-in_err-tidied-clause-within : goal.returns-in_err-tidied-clause-within
returns-in_err-tidied-clause-within g c = λ tells next first since stored tree_is kept.
    c.tidied.ensures.within tells first stored

pub returns-in_err-tidied-clause-blame : goal.returns-in_err-tidied-clause-blame
returns-in_err-tidied-clause-blame g c = λ tells first same.
    err_if c.from_residual.result c.in_err-tidied.field-0.0 (BlamesSources first) c.from_residual.ensures.1 (c.in_err-tidied.ensures.blame first)

pub returns-in_err-tidied-clause-stops : goal.returns-in_err-tidied-clause-stops
returns-in_err-tidied-clause-stops g c =
    err_if c.from_residual.result c.in_err-tidied.field-0.0 StopsReading c.from_residual.ensures.1 c.in_err-tidied.ensures.stops

pub returns-in_err-tidied-clause-counted : goal.returns-in_err-tidied-clause-counted
returns-in_err-tidied-clause-counted g c =
    err_so c.from_residual.result c.in_err-tidied.field-0.0 (HasCountedCause (g.S.Site.faults c.args.site.now) (g.S.Site.faults c.tidied.new.site)) c.from_residual.ensures.1 c.in_err-tidied.ensures.counted

-- ---- it was, where that was worth it, and then the files were scanned

pub returns-clause-scanned : goal.returns-clause-scanned
returns-clause-scanned g c =
    subst (λ (was : GraphState). IfOk c.scanned.result (λ config. IsScannedFrom was config c.scanned.new.graph.nodes)) c.tidied.ensures.nodes c.scanned.ensures.scanned

pub returns-clause-config : goal.returns-clause-config
returns-clause-config g c = λ tells.
    subst (λ (tree : Tree). IfOk c.scanned.result (λ config. config ≡ finite.get tree tup_config)) (c.tidied.ensures.files tells).tree (c.scanned.ensures.config tells)

pub returns-clause-limits : goal.returns-clause-limits
returns-clause-limits g c = λ tells.
    subst (λ (tree : Tree). IfOk c.scanned.result (λ _. IsWithinLimits tree)) (c.tidied.ensures.files tells).tree (c.scanned.ensures.limits tells)

pub returns-clause-files : goal.returns-clause-files
returns-clause-files g c = λ tells.
    files_both g.S.Site c.args.site.now c.tidied.new.site c.scanned.new.site (c.tidied.ensures.files tells) (c.scanned.ensures.files tells)

pub returns-clause-trees : goal.returns-clause-trees
returns-clause-trees g c = λ tells.
    let site_laws = g.met.S.Site in
    trees_both g.S.Site tells site_laws.earlier site_laws.present c.args.site.now c.tidied.new.site c.scanned.new.site (c.tidied.ensures.trees tells) (c.scanned.ensures.trees tells)

pub returns-clause-kept : goal.returns-clause-kept
returns-clause-kept g c = λ tells next first since kept.
    c.scanned.ensures.kept tells next first since (c.tidied.ensures.kept tells next first since kept)

pub returns-clause-within : goal.returns-clause-within
returns-clause-within g c = λ tells next first since stored tree_is kept.
    c.scanned.ensures.within tells next first since (subst (IsGraphIn first.store) (sym c.tidied.ensures.nodes) stored) ((c.tidied.ensures.files tells).tree ∙ tree_is) (c.tidied.ensures.kept tells next first since kept)

pub returns-clause-owns : goal.returns-clause-owns
returns-clause-owns g c = λ tells begun since within owns.
    let later = (c.tidied.ensures.files tells).later in
    let there : since ≤ g.S.Site.moment c.tidied.new.site = omega (arith, within, later) in
    c.scanned.ensures.owns tells begun since there (c.tidied.ensures.owns tells begun since within owns)

pub returns-clause-blame : goal.returns-clause-blame
returns-clause-blame g c = λ tells first same.
    c.scanned.ensures.blame tells first ((c.tidied.ensures.files tells).tree ∙ same)

pub returns-clause-counted : goal.returns-clause-counted
returns-clause-counted g c =
    counted_before (g.S.Site.faults c.args.site.now) (g.S.Site.faults c.tidied.new.site) (g.S.Site.faults c.scanned.new.site) (result_err c.scanned.result) c.in_ok-tidied.ensures.counted c.scanned.ensures.counted

-- ---- what a store lacks room for that is said to be full

pub returns-in_err-tidied-clause-full : goal.returns-in_err-tidied-clause-full
returns-in_err-tidied-clause-full g c = λ tells.
    let now = g.S.Site.world c.tidied.new.site in
    err_if c.from_residual.result c.in_err-tidied.field-0.0 (FillsStore now) c.from_residual.ensures.1 (c.in_err-tidied.ensures.full now)

pub returns-clause-full : goal.returns-clause-full
returns-clause-full g c = λ tells. c.scanned.ensures.full tells
