use Rattle.std.proofs.Common.{◌≡◌, true, false, Err, sym, ap, ◌∙◌}
use Rattle.tup_lex.specs.declared.kind.ParseKind.TheVariants.{BadBrace}
use Rattle.tup_macro.specs.declared.macros.Macro.{Macro}
use Rattle.tup_query.specs.Reads.{gives}
use Rattle.tup_rule_line.specs.MacroLine.{is_body}
use Rattle.tup_query.proofs.Went.{gives_along, gives_refusal}
use Rattle.tup_rule_line.proofs.Rules.{body-bad, body-good}
use Rattle.tup_rule_line.proofs.macro_line.only_body.Goals as goal

pub returns-then-not-is_body : goal.returns-then-not-is_body
returns-then-not-is_body c =
    let a = c.args in
    let bad : is_body a.words ≡ false = sym c.is_body.ensures ∙ c.if-not-is_body.true in
    gives_along _ _ (Err c.refuse.result) (body-bad a.at.now a.words bad) (gives_refusal Macro a.at.now BadBrace c.refuse.result c.refuse.ensures)

pub returns : goal.returns
returns c =
    let a = c.args in
    let good : is_body a.words ≡ true = sym c.is_body.ensures ∙ c.if-not-is_body.false in
    body-good a.at.now a.words good ∙ ap (λ (body : Macro). gives body) (sym c.body_of.ensures)
