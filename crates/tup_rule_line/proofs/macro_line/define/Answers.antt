use Rattle.std.proofs.Common.{Err, Ok, refl, ap}
use Rattle.tup_lex.specs.declared.kind.ParseKind.TheVariants.{DefinedTwice}
use Rattle.tup_macro.specs.Macros.{Definitions, macro_of}
use Rattle.tup_query.proofs.Went.{gives_along, gives_refusal}
use Rattle.tup_rule_line.proofs.Rules.{more-kept, more-twice, not-there}
use Rattle.tup_rule_line.proofs.macro_line.define.Goals as goal

pub returns-in-Ok : goal.returns-in-Ok
returns-in-Ok c =
    let a = c.args in
    more-kept a.at.now a.macros.now a.name.now a.body c.define.new.self (not-there (macro_of a.macros.now a.name.now) (Ok tt) refl (rw c.in_ok-name.ensures at c.in-Ok.ensures.twice)) (rw c.in_ok-name.ensures at c.in-Ok.ensures.defined)

pub returns-in-Err-DefinedTwice : goal.returns-in-Err-DefinedTwice
returns-in-Err-DefinedTwice c =
    let a = c.args in
    let twice = rw c.in_ok-name.ensures at c.in-Err-DefinedTwice.ensures.twice in
    gives_along _ _ (Err c.refuse.result) (more-twice a.at.now a.macros.now a.name.now a.body (twice.0 (ap Err c.in-Err-DefinedTwice.field-0-is)))
    (gives_refusal Definitions a.at.now DefinedTwice c.refuse.result c.refuse.ensures)
