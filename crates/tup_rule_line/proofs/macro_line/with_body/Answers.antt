use Rattle.std.proofs.Common.{Result, Ok, Err, refl}
use Rattle.std.proofs.lemmas.Result.{err_from_is_err_and}
use Rattle.tup_query.specs.declared.fault.ReadEnd.{ReadEnd}
use Rattle.tup_rule_line.specs.declared.state.State.{State}
use Rattle.tup_rule_line.specs.MacroLine.{one_more}
use Rattle.tup_query.proofs.Went.{gives_then, gives_err, gives_along}
use Rattle.tup_rule_line.proofs.Rules.{behind_macros, kept_by}
use Rattle.tup_rule_line.proofs.macro_line.with_body.Goals as goal

pub returns-in_err-define : goal.returns-in_err-define
returns-in_err-define c =
    let a = c.args in
    let p = err_from_is_err_and c.from_residual.result c.from_residual.ensures.1 in
    rw (p.1, p.2)
    (gives_along _ _ (Err c.in_err-define.field-0.0) (kept_by a.at.now a.state a.name.now a.body)
    (gives_err (one_more a.at.now a.state.macros a.name.now a.body) (behind_macros a.state) c.in_err-define.field-0.0 c.in_err-define.ensures))

pub returns : goal.returns
returns c =
    let a = c.args in
    let end : Result State ReadEnd = Ok (record a.state { macros = c.define.new.macros }) in
    gives_along _ _ end (kept_by a.at.now a.state a.name.now a.body)
    (gives_then (one_more a.at.now a.state.macros a.name.now a.body) (behind_macros a.state) c.define.new.macros end c.in_ok-define.ensures refl)
