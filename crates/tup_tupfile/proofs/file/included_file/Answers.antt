use Rattle.std.proofs.lemmas.Result.{err_from_is_err_and}
use Rattle.tup_tupfile.specs.File.{included_path}
use Rattle.tup_query.proofs.Went.{went_then, went_err, went_ok, went_bad, went_along}
use Rattle.tup_tupfile.proofs.Files.{behind_path, behind_name, included_by}
use Rattle.tup_tupfile.proofs.file.included_file.Goals as goal

pub returns-in_err-name : goal.returns-in_err-name
returns-in_err-name g c =
    let a = c.args in
    let p = err_from_is_err_and c.from_residual.result c.from_residual.ensures.1 in
    rw (p.1, p.2) (went_along _ _ (included_by a.at.now a.variables.now a.text.now) (went_err (behind_name a.at.now) c.in_err-name.ensures.went))

pub returns-in_err-path : goal.returns-in_err-path
returns-in_err-path g c =
    let a = c.args in
    let done = c.in_ok-name.ensures.went in
    let p = err_from_is_err_and c.from_residual-in_err-path.result c.from_residual-in_err-path.ensures.1 in
    rw (p.1, p.2)
    (went_along _ _ (included_by a.at.now a.variables.now a.text.now)
    (went_then (behind_name a.at.now) done
    (went_bad _ _ (included_path a.at.now c.in_ok-name.name) (behind_path a.at.now) c.in_err-path.field-0.0 done.stopped c.in_err-path.ensures)))

pub returns : goal.returns
returns g c =
    let a = c.args in
    went_along _ _ (included_by a.at.now a.variables.now a.text.now)
    (went_then (behind_name a.at.now) c.in_ok-name.ensures.went
    (went_ok (included_path a.at.now c.in_ok-name.name) (behind_path a.at.now) c.in_ok-path.ensures c.named_file.ensures))
