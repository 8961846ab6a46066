use Rattle.std.proofs.Common.{◌≡◌, true, false, Err, sym, ◌∙◌}
use Rattle.std.proofs.lemmas.Result.{err_from_is_err_and}
use Rattle.tup_lex.specs.declared.kind.ParseKind.TheVariants.{BadName}
use Rattle.tup_vars.specs.Name.{is_name}
use Rattle.tup_macro.specs.declared.macros.Macro.{Macro}
use Rattle.tup_rule_line.specs.Words.{cut}
use Rattle.tup_query.proofs.Went.{gives_then, gives_err, gives_along, gives_refusal}
use Rattle.tup_rule_line.proofs.Rules.{behind_cut, name-bad, name-good}
use Rattle.tup_rule_line.proofs.macro_line.named_body.Goals as goal

pub returns-then-not-is_name : goal.returns-then-not-is_name
returns-then-not-is_name c =
    let a = c.args in
    let bad : is_name a.name.now ≡ false = sym c.is_name.ensures ∙ c.if-not-is_name.true in
    gives_along _ _ (Err c.refuse.result) (name-bad a.at.now a.name.now a.text.now bad) (gives_refusal Macro a.at.now BadName c.refuse.result c.refuse.ensures)

pub returns-in_err-words : goal.returns-in_err-words
returns-in_err-words c =
    let a = c.args in
    let good : is_name a.name.now ≡ true = sym c.is_name.ensures ∙ c.if-not-is_name.false in
    let p = err_from_is_err_and c.from_residual.result c.from_residual.ensures.1 in
    rw (p.1, p.2)
    (gives_along _ _ (Err c.in_err-words.field-0.0) (name-good a.at.now a.name.now a.text.now good)
    (gives_err (cut a.at.now a.text.now) (behind_cut a.at.now) c.in_err-words.field-0.0 c.in_err-words.ensures))

pub returns : goal.returns
returns c =
    let a = c.args in
    let good : is_name a.name.now ≡ true = sym c.is_name.ensures ∙ c.if-not-is_name.false in
    gives_along _ _ c.only_body.result (name-good a.at.now a.name.now a.text.now good)
    (gives_then (cut a.at.now a.text.now) (behind_cut a.at.now) c.in_ok-words.words c.only_body.result c.in_ok-words.ensures c.only_body.ensures)
