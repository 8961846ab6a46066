use Rattle.std.proofs.Common.{Ok, Err, subst}
use Rattle.std.proofs.lemmas.Result.{err_from_is_err_and}
use Rattle.tup_path.specs.Name.{Names}
use Rattle.tup_lex.specs.declared.kind.ParseKind.TheVariants.{ForeignOutput}
use Rattle.tup_query.specs.Reads.{and_then}
use Rattle.tup_rule_line.specs.Flagged.{flagged_text}
use Rattle.tup_rule_line.specs.Folder.{led}
use Rattle.tup_rule_line.specs.Output.{known_output, from_output}
use Rattle.tup_query.specs.Went.{Gives}
use Rattle.tup_query.proofs.Went.{went_then, went_err, went_given}
use Rattle.tup_rule_line.proofs.output.from_output.Goals as goal

pub returns-in_err-text : goal.returns-in_err-text
unfolding from_output
returns-in_err-text g c =
    let a = c.args in
    let p = err_from_is_err_and c.from_residual.result c.from_residual.ensures.1 in
    rw (p.1, p.2)
    (went_err (λ text. and_then (led a.at.now ForeignOutput a.at.now.dir text) (λ path. known_output a.at.now a.drafts.now a.outputs.now path))
    (went_given _ _ (flagged_text a.at.now a.parts.now a.word.now) (Err c.in_err-text.field-0.0) c.requires c.in_err-text.ensures))

pub returns-in_err-path : goal.returns-in_err-path
unfolding from_output
returns-in_err-path g c =
    let a = c.args in
    let p = err_from_is_err_and c.from_residual-in_err-path.result c.from_residual-in_err-path.ensures.1 in
    let failed = subst (λ (dir : Names). Gives (led a.at.now ForeignOutput dir c.in_ok-text.text) (Err c.in_err-path.field-0.0)) c.dir.ensures c.in_err-path.ensures in
    rw (p.1, p.2)
    (went_then (λ text. and_then (led a.at.now ForeignOutput a.at.now.dir text) (λ path. known_output a.at.now a.drafts.now a.outputs.now path))
    (went_given _ _ (flagged_text a.at.now a.parts.now a.word.now) (Ok c.in_ok-text.text) c.requires c.in_ok-text.ensures)
    (went_err (λ path. known_output a.at.now a.drafts.now a.outputs.now path)
    (went_given _ _ (led a.at.now ForeignOutput a.at.now.dir c.in_ok-text.text) (Err c.in_err-path.field-0.0) c.requires failed)))

pub returns : goal.returns
unfolding from_output
returns g c =
    let a = c.args in
    let done = rw c.dir.ensures at c.in_ok-path.ensures in
    went_then (λ text. and_then (led a.at.now ForeignOutput a.at.now.dir text) (λ path. known_output a.at.now a.drafts.now a.outputs.now path))
    (went_given _ _ (flagged_text a.at.now a.parts.now a.word.now) (Ok c.in_ok-text.text) c.requires c.in_ok-text.ensures)
    (went_then (λ path. known_output a.at.now a.drafts.now a.outputs.now path)
    (went_given _ _ (led a.at.now ForeignOutput a.at.now.dir c.in_ok-text.text) (Ok c.in_ok-path.path) c.requires done)
    c.known_output.ensures)
