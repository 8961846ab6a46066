use Rattle.std.proofs.Common.{◌≡◌, true, false, is_some, ap, ◌∙◌, rules}
use Rattle.std.proofs.lemmas.Result.{err_from_is_err_and}
use Rattle.tup_vars.specs.Name.{is_name}
use Rattle.tup_query.specs.Reads.{gives}
use Rattle.tup_tupfile.specs.Conditional.{agrees}
use Rattle.tup_query.proofs.Went.{went_then, went_err, went_gives, went_along, went_refuses}
use Rattle.tup_tupfile.proofs.Conditions.{looked_up-bad, looked_up-name}
use Rattle.tup_tupfile.proofs.conditional.looked_up.Goals as goal

pub returns-then-not-is_name : goal.returns-then-not-is_name
returns-then-not-is_name g c =
    let bad : is_name c.args.name.now ≡ false = cc in
    went_along _ _ (looked_up-bad c.args.at.now c.args.wanted c.args.name.now bad) (went_refuses _ _ _ _ _ c.requires c.refuse.ensures)

pub returns-in_err-value : goal.returns-in_err-value
returns-in_err-value g c =
    let good : is_name c.args.name.now ≡ true = cc in
    let p = err_from_is_err_and c.from_residual-in_err-value.result c.from_residual-in_err-value.ensures.1 in
    rw (p.1, p.2, ← c.in_ok-name.ensures)
    (went_along _ _ (looked_up-name c.args.at.now c.args.wanted c.in_ok-name.name (ap is_name c.in_ok-name.ensures ∙ good))
    (went_err (λ value. gives (agrees c.args.wanted (is_some value))) c.in_err-value.ensures))

pub returns : goal.returns
returns g c =
    let good : is_name c.args.name.now ≡ true = cc in
    let e : c.agrees.result ≡ agrees c.args.wanted (is_some c.in_ok-value.value) = search rules in
    rw (e, ← c.in_ok-name.ensures)
    (went_along _ _ (looked_up-name c.args.at.now c.args.wanted c.in_ok-name.name (ap is_name c.in_ok-name.ensures ∙ good))
    (went_then (λ value. gives (agrees c.args.wanted (is_some value))) c.in_ok-value.ensures (went_gives _ _ _ c.in_ok-value.ensures.stopped)))
