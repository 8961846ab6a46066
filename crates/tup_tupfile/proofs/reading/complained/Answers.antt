use Rattle.std.proofs.lemmas.Result.{err_from_is_err_and}
use Rattle.tup_query.proofs.Went.{went_then, went_err, went_refuses, went_along}
use Rattle.tup_tupfile.proofs.Lines.{behind_said, complained_by}
use Rattle.tup_tupfile.proofs.reading.complained.Goals as goal

pub returns-in_err-said : goal.returns-in_err-said
returns-in_err-said g c =
    let a = c.args in
    let p = err_from_is_err_and c.from_residual.result c.from_residual.ensures.1 in
    rw (p.1, p.2) (went_along _ _ (complained_by a.at.now a.variables.now a.text.now) (went_err (behind_said a.at.now) c.in_err-said.ensures.went))

pub returns : goal.returns
returns g c =
    let a = c.args in
    let done = c.in_ok-said.ensures.went in
    went_along _ _ (complained_by a.at.now a.variables.now a.text.now) (went_then (behind_said a.at.now) done (went_refuses _ _ _ _ _ done.stopped c.refuse.ensures))
