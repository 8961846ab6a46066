use Rattle.std.proofs.Common.{◌≡◌, true, false}
use Rattle.std.proofs.lemmas.Result.{err_from_is_err_and}
use Rattle.tup_rule_line.specs.Output.{may_make, new_output}
use Rattle.tup_query.proofs.Went.{went_then, went_err, went_given, went_along, went_refuses}
use Rattle.tup_rule_line.proofs.Outputs.{at_kind, known-foreign, known-own}
use Rattle.tup_rule_line.proofs.output.known_output.Goals as goal

pub returns-then-not-may_make : goal.returns-then-not-may_make
returns-then-not-may_make g c =
    let a = c.args in
    let foreign : may_make a.at.now.dir a.path ≡ false = cc in
    went_along _ _ (known-foreign a.at.now a.drafts.now a.outputs.now a.path foreign) (went_refuses _ _ _ _ _ c.requires c.refuse.ensures)

pub returns-in_err-blocked : goal.returns-in_err-blocked
returns-in_err-blocked g c =
    let a = c.args in
    let own : may_make a.at.now.dir a.path ≡ true = cc in
    let p = err_from_is_err_and c.from_residual.result c.from_residual.ensures.1 in
    rw (p.1, p.2)
    (went_along _ _ (known-own a.at.now a.drafts.now a.outputs.now a.path own) (went_err (at_kind a.at.now a.drafts.now a.outputs.now a.path) c.in_err-blocked.ensures))

pub returns-in_err-kind : goal.returns-in_err-kind
returns-in_err-kind g c =
    let a = c.args in
    let own : may_make a.at.now.dir a.path ≡ true = cc in
    let p = err_from_is_err_and c.from_residual-in_err-kind.result c.from_residual-in_err-kind.ensures.1 in
    rw (p.1, p.2)
    (went_along _ _ (known-own a.at.now a.drafts.now a.outputs.now a.path own)
    (went_then (at_kind a.at.now a.drafts.now a.outputs.now a.path) c.in_ok-blocked.ensures
    (went_err (λ kind. new_output a.at.now a.drafts.now a.outputs.now a.path c.in_ok-blocked.blocked kind) c.in_err-kind.ensures)))

pub returns : goal.returns
returns g c =
    let a = c.args in
    let own : may_make a.at.now.dir a.path ≡ true = cc in
    let blocked = c.in_ok-blocked.blocked in
    went_along _ _ (known-own a.at.now a.drafts.now a.outputs.now a.path own)
    (went_then (at_kind a.at.now a.drafts.now a.outputs.now a.path) c.in_ok-blocked.ensures
    (went_then (λ kind. new_output a.at.now a.drafts.now a.outputs.now a.path blocked kind) c.in_ok-kind.ensures
    (went_given _ _ (new_output a.at.now a.drafts.now a.outputs.now a.path blocked c.in_ok-kind.kind) c.new_output.result c.in_ok-kind.ensures.stopped c.new_output.ensures)))
