use Rattle.std.proofs.lemmas.Result.{err_from_is_err_and}
use Rattle.tup_rule_line.specs.Words.{cut, with_macro, words_of}
use Rattle.tup_query.proofs.Went.{gives_then, gives_err}
use Rattle.tup_rule_line.proofs.words.words_of.Goals as goal

pub returns-in_err-bare : goal.returns-in_err-bare
unfolding words_of
returns-in_err-bare c =
    let a = c.args in
    let p = err_from_is_err_and c.from_residual.result c.from_residual.ensures.1 in
    rw (p.1, p.2) (gives_err (cut a.at.now a.text.now) (λ bare. with_macro a.at.now a.macros.now bare) _ c.in_err-bare.ensures)

pub returns : goal.returns
unfolding words_of
returns c =
    let a = c.args in
    gives_then (cut a.at.now a.text.now) (λ bare. with_macro a.at.now a.macros.now bare) c.in_ok-bare.bare c.with_macro.result c.in_ok-bare.ensures c.with_macro.ensures
