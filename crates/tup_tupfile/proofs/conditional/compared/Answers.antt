use Rattle.std.proofs.Common.{◌≡◌, bytes_eq, rules}
use Rattle.std.proofs.lemmas.Result.{err_from_is_err_and}
use Rattle.tup_query.specs.Reads.{gives, and_then}
use Rattle.tup_query.specs.Text.{expanded}
use Rattle.tup_tupfile.specs.Conditional.{agrees, compared}
use Rattle.tup_query.proofs.Went.{went_then, went_err, went_gives}
use Rattle.tup_tupfile.proofs.conditional.compared.Goals as goal

pub returns-in_err-one : goal.returns-in_err-one
unfolding compared
returns-in_err-one g c =
    let p = err_from_is_err_and c.from_residual.result c.from_residual.ensures.1 in
    rw (p.1, p.2)
    (went_err (λ one. and_then (expanded c.args.at.now c.args.variables.now c.args.right.now) (λ other. gives (agrees c.args.alike (bytes_eq one other)))) c.in_err-one.ensures.went)

pub returns-in_err-other : goal.returns-in_err-other
unfolding compared
returns-in_err-other g c =
    let p = err_from_is_err_and c.from_residual-in_err-other.result c.from_residual-in_err-other.ensures.1 in
    rw (p.1, p.2)
    (went_then (λ one. and_then (expanded c.args.at.now c.args.variables.now c.args.right.now) (λ other. gives (agrees c.args.alike (bytes_eq one other)))) c.in_ok-one.ensures.went
    (went_err (λ other. gives (agrees c.args.alike (bytes_eq c.in_ok-one.one other))) c.in_err-other.ensures.went))

pub returns : goal.returns
unfolding compared
returns g c =
    let e : c.agrees.result ≡ agrees c.args.alike (bytes_eq c.in_ok-one.one c.in_ok-other.other) = search rules in
    rw e
    (went_then (λ one. and_then (expanded c.args.at.now c.args.variables.now c.args.right.now) (λ other. gives (agrees c.args.alike (bytes_eq one other)))) c.in_ok-one.ensures.went
    (went_then (λ other. gives (agrees c.args.alike (bytes_eq c.in_ok-one.one other))) c.in_ok-other.ensures.went (went_gives _ _ _ c.in_ok-other.ensures.went.stopped)))
