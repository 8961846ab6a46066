use Rattle.std.proofs.Common.{◌≡◌, true, false, sym, ◌∙◌}
use Rattle.std.proofs.lemmas.Result.{err_from_is_err_and}
use Rattle.tup_vars.specs.Branches.{all_on}
use Rattle.tup_tupfile.specs.Conditional.{looked_up}
use Rattle.tup_query.proofs.Went.{went_then, went_err, went_given, went_along}
use Rattle.tup_tupfile.proofs.Openings.{tested, opening-on, opening-off}
use Rattle.tup_tupfile.proofs.opening.looking.Goals as goal

pub returns-then-not-on : goal.returns-then-not-on
returns-then-not-on g c =
    let a = c.args in
    let off : all_on a.before.levels ≡ false = sym c.on.ensures ∙ c.if-not-on.true in
    went_along _ _ (opening-off a.at.now a.before (looked_up a.at.now a.wanted a.name.now) off)
    (went_given _ _ (tested a.at.now a.before false) c.unread.result c.requires c.unread.ensures)

pub returns-in_err-on : goal.returns-in_err-on
returns-in_err-on g c =
    let a = c.args in
    let on : all_on a.before.levels ≡ true = sym c.on.ensures ∙ c.if-not-on.false in
    let p = err_from_is_err_and c.from_residual.result c.from_residual.ensures.1 in
    rw (p.1, p.2)
    (went_along _ _ (opening-on a.at.now a.before (looked_up a.at.now a.wanted a.name.now) on) (went_err (tested a.at.now a.before) c.in_err-on.ensures))

pub returns : goal.returns
returns g c =
    let a = c.args in
    let on : all_on a.before.levels ≡ true = sym c.on.ensures ∙ c.if-not-on.false in
    went_along _ _ (opening-on a.at.now a.before (looked_up a.at.now a.wanted a.name.now) on)
    (went_then (tested a.at.now a.before) c.in_ok-on.ensures
    (went_given _ _ (tested a.at.now a.before c.in_ok-on.on) c.entered.result c.in_ok-on.ensures.stopped c.entered.ensures))
