use Rattle.std.proofs.Common.{◌≡◌, Some, None, ap, sym, ◌∙◌, subst}
use Rattle.tup_query.specs.declared.fault.ParseFault.{ParseFault}
use Rattle.tup_rule_line.specs.declared.words.Words.{Words}
use Rattle.tup_query.specs.Reads.{Reads}
use Rattle.tup_rule_line.specs.Words.{macro_name}
use Rattle.tup_query.specs.Went.{Gives}
use Rattle.tup_rule_line.proofs.Parts.{macro-some, macro-none}
use Rattle.tup_rule_line.proofs.words.with_macro.Goals as goal

pub returns-in-Some : goal.returns-in-Some
returns-in-Some c =
    let a = c.args in
    let name : macro_name a.words.command ≡ Some c.in-Some.name = ap macro_name (sym c.as_str.ensures.bytes) ∙ sym c.in_ok-name.ensures ∙ c.in-Some.is in
    subst (λ (r : Reads ParseFault Words). Gives r c.with_named.result) (sym (macro-some a.at.now a.macros.now a.words c.in-Some.name name)) c.with_named.ensures

pub returns-in-None : goal.returns-in-None
returns-in-None c =
    let a = c.args in
    let none : macro_name a.words.command ≡ None = ap macro_name (sym c.as_str.ensures.bytes) ∙ sym c.in_ok-name.ensures ∙ c.in-None.is in
    macro-none a.at.now a.macros.now a.words none
