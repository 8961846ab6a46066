use Rattle.std.proofs.Common.{ap}
use Rattle.std.proofs.lemmas.Result.{err_from_is_err_and}
use Rattle.tup_query.proofs.Went.{went_then, went_err, went_gives, went_along}
use Rattle.tup_tupfile.proofs.Lines.{if_found, reading_by}
use Rattle.tup_tupfile.proofs.reading.drafts_of.Goals as goal

pub returns-in_err-found : goal.returns-in_err-found
returns-in_err-found g c =
    let a = c.args in
    let p = err_from_is_err_and c.from_residual.result c.from_residual.ensures.1 in
    rw (p.1, p.2) (went_along _ _ (reading_by a.dir.now) (went_err (if_found a.dir.now) c.in_err-found.ensures))

pub returns-in-Some : goal.returns-in-Some
returns-in-Some g c =
    let a = c.args in
    let done = c.in_ok-found.ensures in
    went_along _ _ (reading_by a.dir.now) (went_then (if_found a.dir.now) done (went_along _ _ (ap (if_found a.dir.now) c.in-Some.is) c.drafts_in.ensures))

pub returns-in-None : goal.returns-in-None
returns-in-None g c =
    let a = c.args in
    let done = c.in_ok-found.ensures in
    rw c.new.ensures
    (went_along _ _ (reading_by a.dir.now) (went_then (if_found a.dir.now) done (went_along _ _ (ap (if_found a.dir.now) c.in-None.is) (went_gives _ _ _ done.stopped))))
