use Rattle.std.proofs.Common.{inr, ap, sym, ◌∙◌}
use Rattle.tup_lex.specs.declared.kind.ParseKind.TheVariants.{NoSuchMacro}
use Rattle.tup_rule_line.specs.declared.words.Words.{Words}
use Rattle.tup_query.specs.Reads.{gives}
use Rattle.tup_rule_line.specs.Words.{with_named}
use Rattle.tup_query.proofs.Went.{refusal_of}
use Rattle.tup_rule_line.proofs.Parts.{named-some, named-none}
use Rattle.tup_rule_line.proofs.words.with_named.Goals as goal

pub returns-in_ok-filled-in-Ok : goal.returns-in_ok-filled-in-Ok
returns-in_ok-filled-in-Ok c =
    let a = c.args in
    named-some a.at.now a.macros.now a.name.now a.words c.in-Ok.body.now c.in-Ok.ensures.found ∙ ap (λ (w : Words). gives w) (sym c.in_ok-filled-in-Ok.ensures)

pub returns-in-Err : goal.returns-in-Err
returns-in-Err c =
    let a = c.args in
    refusal_of (with_named a.at.now a.macros.now a.name.now a.words) a.at.now NoSuchMacro c.refuse.result c.refuse.ensures (inr (named-none a.at.now a.macros.now a.name.now a.words c.in-Err.ensures.refused.1))
