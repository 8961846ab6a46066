use Rattle.std.specs.FinMap as finite
use Rattle.std.proofs.lemmas.Result.{err_from_is_err_and}
use Rattle.tup_readings.proofs.Outcomes.{outcome_ok, outcome_err, outcome_memory}
use Rattle.tup_readings.proofs.folders.read_folders.Goals as goal

pub returns-in-Ok : goal.returns-in-Ok
returns-in-Ok c =
    outcome_ok (finite.from_sorted c.args.sources.now) c.in_ok-sources.sources c.in-Ok.settings c.all_read.result c.in_ok-sources.ensures c.in-Ok.ensures c.all_read.ensures

pub returns : goal.returns
returns c = outcome_err (finite.from_sorted c.args.sources.now) c.in_ok-sources.sources c.in-Err.fault c.in_ok-sources.ensures c.in-Err.ensures

pub returns-in_err-sources : goal.returns-in_err-sources
returns-in_err-sources c =
    let p = err_from_is_err_and c.from_residual.result c.from_residual.ensures.1 in
    rw (p.1, p.2) (outcome_memory (finite.from_sorted c.args.sources.now))
