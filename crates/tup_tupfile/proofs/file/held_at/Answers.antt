use Rattle.std.proofs.lemmas.Result.{err_from_is_err_and}
use Rattle.tup_query.proofs.Went.{went_then, went_err, went_gives, went_along}
use Rattle.tup_tupfile.proofs.Files.{behind_content, held_by}
use Rattle.tup_tupfile.proofs.file.held_at.Goals as goal

pub returns-in_err-content : goal.returns-in_err-content
returns-in_err-content g c =
    let a = c.args in
    let p = err_from_is_err_and c.from_residual.result c.from_residual.ensures.1 in
    rw (p.1, p.2) (went_along _ _ (held_by a.path) (went_err (behind_content a.path) c.in_err-content.ensures))

pub returns : goal.returns
returns g c =
    let a = c.args in
    let done = c.in_ok-content.ensures in
    rw c.holding.ensures (went_along _ _ (held_by a.path) (went_then (behind_content a.path) done (went_gives _ _ _ done.stopped)))
