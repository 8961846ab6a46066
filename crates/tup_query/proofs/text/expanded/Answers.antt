use Rattle.std.proofs.Common.{◌≡◌, ap, ◌∙◌, refl}
use Rattle.std.proofs.lemmas.Result.{err_from_is_err_and}
use Rattle.tup_vars.specs.Asked.{setting_names}
use Rattle.tup_vars.specs.Expand.{scope, expansion}
use Rattle.tup_query.specs.Spot.{cwd}
use Rattle.tup_query.specs.Text.{value_among}
use Rattle.tup_query.proofs.Went.{went_then, went_err, went_gives, went_given, went_along}
use Rattle.tup_query.proofs.Shorts.{expansion_short}
use Rattle.tup_query.proofs.Texts.{told, expanded_by, expansion_ok, expansion_err}
use Rattle.tup_query.proofs.text.expanded.Goals as goal

pub returns-in_err-values-clause-went : goal.returns-in_err-values-clause-went
returns-in_err-values-clause-went g c =
    let p = err_from_is_err_and c.from_residual-in_err-values.result c.from_residual-in_err-values.ensures.1 in
    let names : c.as_slice.result.now ≡ setting_names c.args.text.now = c.as_slice.ensures ∙ c.in_ok-names.ensures ∙ ap setting_names c.in_ok-text.ensures in
    rw (p.1, p.2)
    (went_along _ _ (expanded_by c.args.at.now c.args.variables.now c.args.text.now c.as_slice.result.now names)
    (went_err (told c.args.at.now c.args.variables.now c.args.text.now) c.in_err-values.ensures))

pub returns-in-Ok-clause-went : goal.returns-in-Ok-clause-went
returns-in-Ok-clause-went g c =
    let names : c.as_slice.result.now ≡ setting_names c.args.text.now = c.as_slice.ensures ∙ c.in_ok-names.ensures ∙ ap setting_names c.in_ok-text.ensures in
    let done = rw (c.in_ok-cwd.ensures, c.in_ok-text.ensures) at (c.in-Ok.ensures.expanded refl) in
    went_along _ _ (expanded_by c.args.at.now c.args.variables.now c.args.text.now c.as_slice.result.now names)
    (went_then (told c.args.at.now c.args.variables.now c.args.text.now) c.in_ok-values.ensures
    (went_along _ _ (expansion_ok c.args.at.now c.in-Ok.text (expansion (scope c.args.variables.now (cwd c.args.at.now) (value_among c.in_ok-values.values)) c.args.text.now) done)
    (went_gives _ _ _ c.in_ok-values.ensures.stopped)))

pub returns-in-Ok-clause-short : goal.returns-in-Ok-clause-short
returns-in-Ok-clause-short g c =
    let done = rw (c.in_ok-cwd.ensures, c.in_ok-text.ensures) at (c.in-Ok.ensures.expanded refl) in
    expansion_short (scope c.args.variables.now (cwd c.args.at.now) (value_among c.in_ok-values.values)) c.args.text.now c.in-Ok.text done

pub returns-clause-went : goal.returns-clause-went
returns-clause-went g c =
    let names : c.as_slice.result.now ≡ setting_names c.args.text.now = c.as_slice.ensures ∙ c.in_ok-names.ensures ∙ ap setting_names c.in_ok-text.ensures in
    let done = rw (c.in_ok-cwd.ensures, c.in_ok-text.ensures) at (c.in-Err.ensures.expanded refl) in
    went_along _ _ (expanded_by c.args.at.now c.args.variables.now c.args.text.now c.as_slice.result.now names)
    (went_then (told c.args.at.now c.args.variables.now c.args.text.now) c.in_ok-values.ensures
    (went_given _ _ _ _ c.in_ok-values.ensures.stopped
    (expansion_err c.args.at.now c.in-Err.fault (expansion (scope c.args.variables.now (cwd c.args.at.now) (value_among c.in_ok-values.values)) c.args.text.now) c.var_end.result done
    c.var_end.ensures.refusal c.var_end.ensures.memory c.var_end.ensures.stopped)))
