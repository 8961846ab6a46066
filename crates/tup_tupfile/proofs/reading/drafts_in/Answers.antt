use Rattle.std.proofs.Common.{Ok, refl}
use Rattle.std.proofs.lemmas.Result.{err_from_is_err_and}
use Rattle.tup_query.proofs.Went.{went_then, went_err, went_gives, went_along}
use Rattle.tup_tupfile.proofs.Lines.{drafts_behind, drafts_by, new-state}
use Rattle.tup_tupfile.proofs.reading.drafts_in.Goals as goal

pub returns-in_err-state-2 : goal.returns-in_err-state-2
returns-in_err-state-2 g c =
    let a = c.args in
    let failed = rw (new-state c.in_ok-state.state (Ok c.in_ok-state.state) refl c.in_ok-state.ensures) at c.in_err-state-2.ensures in
    let p = err_from_is_err_and c.from_residual-in_err-state-2.result c.from_residual-in_err-state-2.ensures.1 in
    rw (p.1, p.2) (went_along _ _ (drafts_by a.dir.now a.held.now) (went_err drafts_behind failed))

pub returns : goal.returns
returns g c =
    let a = c.args in
    let done = rw (new-state c.in_ok-state.state (Ok c.in_ok-state.state) refl c.in_ok-state.ensures) at c.in_ok-state-2.ensures in
    rw c.into_drafts.ensures (went_along _ _ (drafts_by a.dir.now a.held.now) (went_then drafts_behind done (went_gives _ _ _ done.stopped)))
