use Rattle.std.proofs.lemmas.Result.{err_from_is_err_and}
use Rattle.tup_tupfile.specs.Setting.{set_name, goes_on, with_value}
use Rattle.tup_query.proofs.Went.{went_then, went_err, went_given, went_along}
use Rattle.tup_tupfile.proofs.Conditions.{behind_value, assigned_by}
use Rattle.tup_tupfile.proofs.setting.assigned.Goals as goal

pub returns-in_err-value : goal.returns-in_err-value
returns-in_err-value g c =
    let a = c.args in
    let p = err_from_is_err_and c.from_residual.result c.from_residual.ensures.1 in
    let failed = rw (c.set_name-name.ensures, c.trimmed.ensures) at c.in_err-value.ensures in
    rw (p.1, p.2) (went_along _ _ (assigned_by a.at.now a.state a.left.now a.right.now) (went_err (behind_value a.at.now a.state a.left.now) failed))

pub returns : goal.returns
returns g c =
    let a = c.args in
    let done = rw (c.set_name-name.ensures, c.trimmed.ensures) at c.in_ok-value.ensures in
    let kept = rw (c.set_name-name.ensures, c.goes_on.ensures) at c.with_value.ensures in
    went_along _ _ (assigned_by a.at.now a.state a.left.now a.right.now)
    (went_then (behind_value a.at.now a.state a.left.now) done
    (went_given _ _ (with_value a.at.now a.state (set_name a.left.now) (goes_on a.left.now) c.in_ok-value.value) c.with_value.result done.stopped kept))
