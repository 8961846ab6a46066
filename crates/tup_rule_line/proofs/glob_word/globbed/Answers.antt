use Rattle.std.proofs.Common.{◌≡◌, ℕ, List, Ok, Err, subst, ap, ◌∙◌}
use Rattle.std.proofs.lemmas.Result.{err_from_is_err_and}
use Rattle.tup_lex.specs.Word.{last_name}
use Rattle.tup_lex.specs.declared.kind.ParseKind.TheVariants.{MissingInput}
use Rattle.tup_rule_line.specs.Folder.{led_to_folder}
use Rattle.tup_rule_line.specs.Glob.{glob_of, matched_in}
use Rattle.tup_query.specs.Went.{Gives}
use Rattle.tup_query.proofs.Went.{went_then, went_err, went_given, went_along}
use Rattle.tup_rule_line.proofs.Globs.{behind_glob, globbed_by}
use Rattle.tup_rule_line.proofs.glob_word.globbed.Goals as goal

pub returns-in_err-glob : goal.returns-in_err-glob
returns-in_err-glob g c =
    let a = c.args in
    let p = err_from_is_err_and c.from_residual.result c.from_residual.ensures.1 in
    let name : c.last_name.result.now ≡ last_name a.word.now = c.last_name.ensures ∙ ap last_name c.as_str.ensures.bytes in
    let failed = subst (λ (t : List ℕ). Gives (glob_of a.at.now t) (Err c.in_err-glob.field-0.0)) name c.in_err-glob.ensures in
    rw (p.1, p.2)
    (went_along _ _ (globbed_by a.at.now a.drafts.now a.word.now)
    (went_err (behind_glob a.at.now a.drafts.now a.word.now) (went_given _ _ (glob_of a.at.now (last_name a.word.now)) (Err c.in_err-glob.field-0.0) c.requires failed)))

pub returns-in_err-dir : goal.returns-in_err-dir
returns-in_err-dir g c =
    let a = c.args in
    let p = err_from_is_err_and c.from_residual-in_err-dir.result c.from_residual-in_err-dir.ensures.1 in
    let name : c.last_name.result.now ≡ last_name a.word.now = c.last_name.ensures ∙ ap last_name c.as_str.ensures.bytes in
    let done = subst (λ (t : List ℕ). Gives (glob_of a.at.now t) (Ok c.in_ok-glob.glob)) name c.in_ok-glob.ensures in
    let failed = subst (λ (t : List ℕ). Gives (led_to_folder a.at.now MissingInput t) (Err c.in_err-dir.field-0.0)) c.as_str-2.ensures.bytes c.in_err-dir.ensures in
    rw (p.1, p.2)
    (went_along _ _ (globbed_by a.at.now a.drafts.now a.word.now)
    (went_then (behind_glob a.at.now a.drafts.now a.word.now) (went_given _ _ (glob_of a.at.now (last_name a.word.now)) (Ok c.in_ok-glob.glob) c.requires done)
    (went_err (λ dir. matched_in a.drafts.now c.in_ok-glob.glob dir) (went_given _ _ (led_to_folder a.at.now MissingInput a.word.now) (Err c.in_err-dir.field-0.0) c.requires failed))))

pub returns : goal.returns
returns g c =
    let a = c.args in
    let name : c.last_name.result.now ≡ last_name a.word.now = c.last_name.ensures ∙ ap last_name c.as_str.ensures.bytes in
    let done = subst (λ (t : List ℕ). Gives (glob_of a.at.now t) (Ok c.in_ok-glob.glob)) name c.in_ok-glob.ensures in
    let led = subst (λ (t : List ℕ). Gives (led_to_folder a.at.now MissingInput t) (Ok c.in_ok-dir.dir)) c.as_str-2.ensures.bytes c.in_ok-dir.ensures in
    went_along _ _ (globbed_by a.at.now a.drafts.now a.word.now)
    (went_then (behind_glob a.at.now a.drafts.now a.word.now) (went_given _ _ (glob_of a.at.now (last_name a.word.now)) (Ok c.in_ok-glob.glob) c.requires done)
    (went_then (λ dir. matched_in a.drafts.now c.in_ok-glob.glob dir) (went_given _ _ (led_to_folder a.at.now MissingInput a.word.now) (Ok c.in_ok-dir.dir) c.requires led)
    c.matched_in.ensures))
