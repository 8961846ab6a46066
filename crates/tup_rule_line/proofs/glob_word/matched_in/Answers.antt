use Rattle.std.proofs.Common.{◌≡◌, ◌++◌, filter_map, ap, ◌∙◌}
use Rattle.std.proofs.lemmas.Result.{err_from_is_err_and}
use Rattle.tup_rule_line.specs.State.{made_by}
use Rattle.tup_rule_line.specs.Found.{inputs_alone}
use Rattle.tup_rule_line.specs.Glob.{names_among, in_order, matching}
use Rattle.tup_query.proofs.Went.{went_then, went_err, went_gives, went_memory, went_along}
use Rattle.tup_rule_line.proofs.Globs.{behind_told, behind_names, matched_by}
use Rattle.tup_rule_line.proofs.Sieved.{sieved}
use Rattle.tup_rule_line.proofs.glob_word.matched_in.Goals as goal

pub returns-in_err-told : goal.returns-in_err-told
returns-in_err-told g c =
    let a = c.args in
    let p = err_from_is_err_and c.from_residual.result c.from_residual.ensures.1 in
    rw (p.1, p.2)
    (went_along _ _ (matched_by a.drafts.now a.glob.now a.dir.now) (went_err (behind_names a.glob.now a.dir.now) (went_err (behind_told a.drafts.now a.dir.now) c.in_err-told.ensures)))

pub returns-in_err-names : goal.returns-in_err-names
returns-in_err-names g c =
    let p = err_from_is_err_and c.from_residual-in_err-names.result c.from_residual-in_err-names.ensures.1 in
    rw (p.1, p.2) (went_memory _ c.in_ok-told.ensures)

pub returns-in_err-inputs : goal.returns-in_err-inputs
returns-in_err-inputs g c =
    let p = err_from_is_err_and c.from_residual-in_err-inputs.result c.from_residual-in_err-inputs.ensures.1 in
    rw (p.1, p.2) (went_memory _ c.in_ok-told.ensures)

pub returns : goal.returns
returns g c =
    let a = c.args in
    let e : c.inputs_alone.result ≡ inputs_alone (filter_map (matching a.dir.now a.glob.now) (in_order (c.in_ok-told.told ++ names_among a.dir.now (made_by a.drafts.now)))) =
    c.inputs_alone.ensures ∙ ap inputs_alone (c.in_ok-inputs.ensures ∙ ap (filter_map (matching a.dir.now a.glob.now)) c.in_ok-names.ensures
    ∙ sieved a.dir.now a.glob.now (c.in_ok-told.told ++ names_among a.dir.now (made_by a.drafts.now))) in
    rw e
    (went_along _ _ (matched_by a.drafts.now a.glob.now a.dir.now)
    (went_then (behind_names a.glob.now a.dir.now)
    (went_then (behind_told a.drafts.now a.dir.now) c.in_ok-told.ensures (went_gives _ _ _ c.in_ok-told.ensures.stopped))
    (went_gives _ _ _ c.in_ok-told.ensures.stopped)))
