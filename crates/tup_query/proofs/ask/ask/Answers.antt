use Rattle.std.proofs.Common.{◌≡◌, Some, None, is_some, ap, sym, ◌∙◌, option_map}
use Rattle.std.proofs.lemmas.Result.{err_from_is_err_and}
use Rattle.tup_query.specs.Log.{told_before}
use Rattle.tup_query.proofs.Asking.{asked_before, asked_new, has_stopped}
use Rattle.tup_query.proofs.ask.ask.Goals as goal

pub returns-in-Some : goal.returns-in-Some
returns-in-Some g c =
    let known : told_before c.args.log.now c.args.question ≡ Some c.in-Some.told.now = sym c.answer_to.ensures ∙ ap (option_map (λ told. told.now)) c.in-Some.is in
    rw c.in_ok-clone.ensures.cases (asked_before _ _ _ _ c.requires known)

pub returns-in_err-told : goal.returns-in_err-told
returns-in_err-told g c =
    let unknown : told_before c.args.log.now c.args.question ≡ None = sym c.answer_to.ensures ∙ ap (option_map (λ told. told.now)) c.in_default.is in
    let p = err_from_is_err_and c.from_residual-in_err-told.result c.from_residual-in_err-told.ensures.1 in
    rw (p.1, p.2) (has_stopped _ _ _ _ _ _ unknown c.in_err-told.ensures.stopped (λ tells. c.in_err-told.ensures.same tells) c.in_err-told.ensures.asked)

pub returns : goal.returns
returns g c =
    let unknown : told_before c.args.log.now c.args.question ≡ None = sym c.answer_to.ensures ∙ ap (option_map (λ told. told.now)) c.in_default.is in
    rw (c.in_ok-add.ensures.added, c.in_ok-clone-2.ensures.cases)
    (asked_new _ _ _ _ _ _ _ unknown c.in_ok-told.ensures.kind (ap is_some c.in_ok-told.ensures.stopped) (λ tells. c.in_ok-told.ensures.answer tells) (λ tells. c.in_ok-told.ensures.same tells) c.in_ok-told.ensures.asked)
