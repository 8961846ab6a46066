use Rattle.std.proofs.Common.{ℕ, List, subst, Option, Some, Result, Err, Ok, refl}
use Rattle.std.proofs.lemmas.Result.{err_from_is_err_and}
use Rattle.tup_lex.specs.declared.kind.ParseKind.TheVariants.{ForeignOutput}
use Rattle.tup_rule.specs.declared.draft.GroupRef.{GroupRef}
use Rattle.tup_query.specs.declared.fault.ReadEnd.{ReadEnd}
use Rattle.tup_rule_line.specs.Folder.{led_to_folder, group_in}
use Rattle.tup_query.specs.Went.{Gives}
use Rattle.tup_query.proofs.Went.{gives_then, gives_err, gives_along}
use Rattle.tup_rule_line.proofs.Rules.{behind_folder, given-none, given-some}
use Rattle.tup_rule_line.proofs.rule_line.given_to.Goals as goal

pub returns-in_err-dir-in-Some : goal.returns-in_err-dir-in-Some
returns-in_err-dir-in-Some c =
    let a = c.args in
    let word = c.in-Some.word in
    let failed = subst (λ (t : List ℕ). Gives (led_to_folder a.at.now ForeignOutput t) (Err c.in_err-dir-in-Some.field-0.0)) c.as_str.ensures.bytes c.in_err-dir-in-Some.ensures in
    let p = err_from_is_err_and c.from_residual.result c.from_residual.ensures.1 in
    rw (p.1, p.2)
    (gives_along _ _ (Err c.in_err-dir-in-Some.field-0.0) (given-some a.at.now a.word.now word c.in-Some.is)
    (gives_err (led_to_folder a.at.now ForeignOutput word) (behind_folder word) c.in_err-dir-in-Some.field-0.0 failed))

pub returns-in_ok-group_in-in-Some : goal.returns-in_ok-group_in-in-Some
returns-in_ok-group_in-in-Some c =
    let a = c.args in
    let word = c.in-Some.word in
    let dir = c.in_ok-dir-in-Some.dir in
    let done = rw c.as_str.ensures.bytes at c.in_ok-dir-in-Some.ensures in
    let end : Result (Option GroupRef) ReadEnd = Ok (Some (group_in dir word)) in
    rw (c.in_ok-group_in-in-Some.ensures, c.as_str-in-Some.ensures.bytes)
    (gives_along _ _ end (given-some a.at.now a.word.now word c.in-Some.is)
    (gives_then (led_to_folder a.at.now ForeignOutput word) (behind_folder word) dir end done refl))

pub returns-in-None : goal.returns-in-None
returns-in-None c = given-none c.args.at.now c.args.word.now c.in-None.is
