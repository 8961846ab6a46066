use Rattle.std.proofs.Common.{List, ℕ, sym, ◌∙◌, ap, subst}
use Rattle.tup_rule_line.specs.Cut.{AreCut}
use Rattle.tup_rule_line.specs.Words.{words_at}
use Rattle.tup_rule_line.proofs.Cuttings.{given-cut}
use Rattle.tup_rule_line.proofs.Parts.{cut-ok, cut-err}
use Rattle.tup_rule_line.proofs.words.cut.Goals as goal

pub words_at-requires : goal.words_at-requires
words_at-requires c =
    let a = c.args in
    subst (λ (t : List ℕ). AreCut t c.in-Ok.parts) (sym c.as_str-source.ensures.bytes) (given-cut a.text.now c.in-Ok.parts c.as_str-source.ensures.utf8 c.in-Ok.ensures.parts)

pub returns-in_ok-words_at-in-Ok : goal.returns-in_ok-words_at-in-Ok
returns-in_ok-words_at-in-Ok c =
    let a = c.args in
    cut-ok a.at.now a.text.now c.in-Ok.parts c.in_ok-words_at-in-Ok.field-0 c.in-Ok.ensures.parts
    (c.in_ok-words_at-in-Ok.ensures ∙ ap (λ t. words_at t c.in-Ok.parts) c.as_str-source.ensures.bytes)

pub returns-in-Err : goal.returns-in-Err
returns-in-Err c =
    let a = c.args in
    cut-err a.at.now a.text.now c.in-Err.fault c.lex_end.result c.in-Err.ensures.parts c.lex_end.ensures.refusal c.lex_end.ensures.memory
