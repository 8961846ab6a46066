use Rattle.std.proofs.Common.{ℕ, List, Ok, Err, Result, refl, subst}
use Rattle.std.proofs.lemmas.Result.{err_from_is_err_and}
use Rattle.tup_rule.specs.declared.draft.Draft.{Draft}
use Rattle.tup_query.specs.declared.fault.ReadEnd.{ReadEnd}
use Rattle.tup_rule_line.specs.Job.{spoken, draft_of}
use Rattle.tup_query.specs.Went.{Gives}
use Rattle.tup_query.proofs.Went.{gives_then, gives_err, gives_along}
use Rattle.tup_rule_line.proofs.Jobs.{behind_said, text_by}
use Rattle.tup_rule_line.proofs.command.with_text.Goals as goal

pub returns-in_err-said : goal.returns-in_err-said
returns-in_err-said c =
    let a = c.args in
    let p = err_from_is_err_and c.from_residual.result c.from_residual.ensures.1 in
    let failed = subst (λ (text : List ℕ). Gives (spoken a.at.now a.parts text) (Err c.in_err-said.field-0.0)) c.as_str.ensures.bytes c.in_err-said.ensures in
    rw (p.1, p.2)
    (gives_along _ _ (Err c.in_err-said.field-0.0) (text_by a.at.now a.words.now a.group.now a.parts a.outputs)
    (gives_err (spoken a.at.now a.parts a.words.now.command) (behind_said a.at.now a.group.now a.parts a.outputs) c.in_err-said.field-0.0 failed))

pub returns : goal.returns
returns c =
    let a = c.args in
    let said = c.in_ok-said.said in
    let done = subst (λ (text : List ℕ). Gives (spoken a.at.now a.parts text) (Ok said)) c.as_str.ensures.bytes c.in_ok-said.ensures in
    let end : Result Draft ReadEnd = Ok (draft_of a.at.now a.group.now a.parts a.outputs said) in
    rw c.in_ok-draft_of.ensures
    (gives_along _ _ end (text_by a.at.now a.words.now a.group.now a.parts a.outputs)
    (gives_then (spoken a.at.now a.parts a.words.now.command) (behind_said a.at.now a.group.now a.parts a.outputs) said end done refl))
