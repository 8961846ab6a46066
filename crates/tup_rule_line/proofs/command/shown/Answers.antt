use Rattle.std.proofs.Common.{ℕ, List, Option, Some, Ok, Err, ap, sym, subst, refl}
use Rattle.std.proofs.lemmas.Result.{err_from_is_err_and}
use Rattle.tup_query.specs.Reads.{gives}
use Rattle.tup_rule_line.specs.Flagged.{flagged}
use Rattle.tup_rule_line.specs.Job.{shown}
use Rattle.tup_query.specs.Went.{Gives}
use Rattle.tup_query.proofs.Went.{gives_then, gives_err}
use Rattle.tup_rule_line.proofs.command.shown.Goals as goal

pub returns-in_err-pieces-in-Some : goal.returns-in_err-pieces-in-Some
unfolding shown
returns-in_err-pieces-in-Some c =
    let a = c.args in
    let p = err_from_is_err_and c.from_residual.result c.from_residual.ensures.1 in
    rw (p.1, p.2)
    (subst (λ (t : Option (List ℕ)). Gives (shown a.at.now a.parts.now t) (Err c.in_err-pieces-in-Some.field-0.0)) (sym c.in-Some.is)
    (gives_err (flagged a.at.now a.parts.now c.in-Some.text) (λ pieces. gives (Some pieces)) c.in_err-pieces-in-Some.field-0.0 c.in_err-pieces-in-Some.ensures))

pub returns-in_ok-pieces-in-Some : goal.returns-in_ok-pieces-in-Some
unfolding shown
returns-in_ok-pieces-in-Some c =
    let a = c.args in
    let pieces = c.in_ok-pieces-in-Some.pieces in
    subst (λ (t : Option (List ℕ)). Gives (shown a.at.now a.parts.now t) (Ok (Some pieces))) (sym c.in-Some.is)
    (gives_then (flagged a.at.now a.parts.now c.in-Some.text) (λ pieces. gives (Some pieces)) pieces (Ok (Some pieces)) c.in_ok-pieces-in-Some.ensures refl)

pub returns-in-None : goal.returns-in-None
unfolding shown
returns-in-None c = ap (shown c.args.at.now c.args.parts.now) c.in-None.is
